use Rattle.std.proofs.Common.{rules, ◌≡◌, ◌∙◌, ℕ, List, nat_eq, sym, subst, length}
use Rattle.fd_site.specs.Contents.{file_of}
use Rattle.lru.specs.LruCache.{LruCache}
use Rattle.fd_cache.specs.Pages.{HoldsPagesOf}
use Rattle.fd_cache.proofs.Held.{of_both, of_one, found_page, held_promoted, held_after_put}
use Rattle.fd_cache.proofs.pages.Pages.read.Goals as goal

pub returns-in-Some-clause-bytes : goal.returns-in-Some-clause-bytes
returns-in-Some-clause-bytes g c = λ c' is. of_one (file_of c' c.args.name.now) _ _
    (λ file held. found_page c.self.inside.pages.entries file c.args.offset c.in-Some.page
    (sym (c.copied.ensures ∙ c.get.ensures.value) ∙ c.in-Some.is)
    (subst (λ pages. HoldsPagesOf pages file) (sym c.self.view_is) held))
    (c.requires.held c' is)

pub returns-in-Some-clause-held : goal.returns-in-Some-clause-held
returns-in-Some-clause-held g c = λ c' is. of_one (file_of c' c.args.name.now) _ _
    (λ file held. subst (λ (m : LruCache ℕ (List ℕ)). HoldsPagesOf m.entries file) (sym c.get.follows.holds-at-none)
    (held_promoted (nat_eq c.args.offset) c.self.inside.pages.entries file
    (subst (λ pages. HoldsPagesOf pages file) (sym c.self.view_is) held)))
    (c.requires.held c' is)

pub returns-in_err-read_file-clause-held : goal.returns-in_err-read_file-clause-held
returns-in_err-read_file-clause-held g c = λ c' is. of_one (file_of c' c.args.name.now) _ _
    (λ file held. subst (λ (m : LruCache ℕ (List ℕ)). HoldsPagesOf m.entries file) (sym c.get.follows.holds-at-none)
    (held_promoted (nat_eq c.args.offset) c.self.inside.pages.entries file
    (subst (λ pages. HoldsPagesOf pages file) (sym c.self.view_is) held)))
    (c.requires.held c' (sym c.read_file.ensures.untouched.told ∙ is))

pub returns-clause-held : goal.returns-clause-held
returns-clause-held g c = λ c' is.
    let was = sym c.read_file.ensures.untouched.told ∙ is in
    let len : length c.args.out.now ≡ 4096 = search rules in
    of_both (file_of c' c.args.name.now) _ _ _
    (λ file held page. held_after_put c.put.result c.get.follows.lender-at-none c.put.new.self c.args.offset c.read_file.new.out file
    c.put.ensures.entries c.put.ensures.err
    (subst (λ (m : LruCache ℕ (List ℕ)). HoldsPagesOf m.entries file) (sym c.get.follows.holds-at-none)
    (held_promoted (nat_eq c.args.offset) c.self.inside.pages.entries file
    (subst (λ pages. HoldsPagesOf pages file) (sym c.self.view_is) held)))
    (rw len at page))
    (c.requires.held c' was) (c.in_ok-read_file.ensures.bytes c' was)
