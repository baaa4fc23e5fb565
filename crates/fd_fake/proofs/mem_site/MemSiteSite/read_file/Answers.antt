-- What is told of the site is its disk.
use Rattle.std.proofs.Common.{◌+◌, ◌≤◌, List, ℕ, length, refl, sym, subst}
use Rattle.std.specs.Option.{IsSomeAnd}
use Rattle.fd_fake.specs.Disk.{file_now}
use Rattle.fd_fake.specs.MemSite.{SiteInMemory}
use Rattle.fd_fake.proofs.mem_site.MemSiteSite.read_file.Goals as goal

pub read_file-requires : goal.read_file-requires
read_file-requires c =
    subst (λ (m : SiteInMemory). IsSomeAnd (file_now m.disk c.args.name.now) (λ (file : List ℕ). c.args.at + length c.args.out.now ≤ length file))
    (sym c.self.view_is) (c.requires.inside _ refl)
