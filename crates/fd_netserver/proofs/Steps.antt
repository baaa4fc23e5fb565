-- Calls on files, one after another.
use Rattle.std.proofs.Common.{◌≡◌, inl, inr, ℕ, Bool, cond, List, [], ◌∷◌, Option, Some, None, IsSome, Result, Ok, Err, OnErr, refl, sym, ◌∙◌, ap, subst}
use Rattle.std.specs.Option.{option_map}
use Rattle.fd_site.specs.Begun.{IsBegun, IsFailed}
use Rattle.fd_site.specs.Journal.{Entry, Create, Write, file_written}
use Rattle.fd_site.specs.Contents.{Contents, Told, Adds, file_of, with_entries}
use Rattle.fd_site.proofs.Told.{before, with_entries-append}
use Rattle.fd_kdh.specs.declared.header.Header.{Header}
use Rattle.fd_info.specs.Info.{info_text}
use Rattle.fd_info.specs.Name.{info_name, vmcore_name}
use Rattle.fd_netserver.specs.Files.{device_name, end_of, finish_of}
use Rattle.fd_netserver.proofs.Apart.{bytes_eq-same}

-- what is begun after a step is begun with it
pub begun_after : (old mid new : Option Contents) (w : Entry) (ws : List Entry) → mid ≡ with_entries old (w ∷ []) → Adds (IsBegun ws) mid new → Adds (IsBegun (w ∷ ws)) old new
begun_after old mid new w ws step adds =
    (w ∷ adds.0, inl (refl, adds.1), adds.2 ∙ ap (λ (t : Option Contents). with_entries t adds.0) step ∙ with_entries-append old (w ∷ []) adds.0)

-- a step that failed begins it
begins : (w : Entry) (ws added : List Entry) → IsFailed w added → IsBegun (w ∷ ws) added
begins w ws [] failed = tt
begins w ws (a ∷ added) failed = inr failed

pub begun_by : (old new : Option Contents) (w : Entry) (ws : List Entry) → Adds (IsFailed w) old new → Adds (IsBegun (w ∷ ws)) old new
begun_by old new w ws adds = (adds.0, begins w ws adds.0 adds.1, adds.2)

-- a file that was made is there, and stays there when it is written
pub there_made : (old mid : Option Contents) (name : List ℕ) → mid ≡ with_entries old (Create name ∷ []) → Told mid (λ c. IsSome (file_of c name))
there_made old mid name step c is =
    let b = before old (Create name ∷ []) c (sym step ∙ is) in
    subst (λ (o : Option (List ℕ)). IsSome o) (sym (b.file name ∙ ap (λ (t : Bool). cond t (Some []) (file_of b.was name)) (bytes_eq-same name))) refl

pub there_written : (old mid now : Option Contents) (name : List ℕ) (at : ℕ) (bytes : List ℕ) →
    mid ≡ with_entries old (Create name ∷ []) → now ≡ with_entries mid (Write name at bytes ∷ []) →
    Told now (λ c. IsSome (file_of c name))
there_written old mid now name at bytes made step c is =
    let b = before mid (Write name at bytes ∷ []) c (sym step ∙ is) in
    let was : IsSome (file_of b.was name) = there_made old mid name made b.was b.told_was in
    subst (λ (o : Option (List ℕ)). IsSome o)
    (sym (b.file name ∙ ap (λ (t : Bool). cond t (option_map (λ file. file_written file at bytes) (file_of b.was name)) (file_of b.was name)) (bytes_eq-same name)))
    (mapped (file_of b.was name) was)
  where
    mapped : (o : Option (List ℕ)) → IsSome o → IsSome (option_map (λ file. file_written file at bytes) o)
    mapped None some = absurd (cc)
    mapped (Some file) some = refl

pub on_err : {T E : Type 0} (r : Result T E) (P : Type 0) → P → OnErr r P
on_err (Ok x) P p = tt
on_err (Err e) P p = p

-- the files of a number
module _ (n : ℕ) (h : Header) (parity : ℕ) (vmcore info text : List ℕ) where
  pub end_named : vmcore ≡ vmcore_name n → info ≡ info_name n → text ≡ info_text h device_name parity n → finish_of vmcore info text ≡ end_of n h parity
  end_named vmcore_is info_is text_is = λ i. finish_of (vmcore_is i) (info_is i) (text_is i)
