-- What a visitor of pages was given. `took` says what it may do with one page: the visitor before, the page, its answer, and
-- the visitor after.
use Rattle.std.specs.Prelude.{◌≡◌, ◌^◌, ◌<◌, Bool, true, false, List, [], ◌∷◌, ◌++◌, length, Result, Ok, Err, OnErr}
use Rattle.fd_site.specs.declared.fault.SiteFault.{SiteFault}
use Rattle.fd_kvm.specs.declared.page.Page.{Page}

-- it took these pages, one after another, and answered true to each
abbrev pub TookAll : {V : Type 0} → (took : V → Page → Bool → V → Type 0) → (old : V) → List Page → (new : V) → Type 0
TookAll took old [] new = new ≡ old
TookAll {V} took old (page ∷ pages) new = (between : V) × (took old page true between × TookAll took between pages new)

-- it took these pages, and answered false to the last one alone
pub record TookUpTo {V : Type 0} (took : V → Page → Bool → V → Type 0) (old : V) (pages : List Page) (new : V) : Type 0 where
  pub front : List Page
  pub last : Page
  pub between : V
  pub are : pages ≡ front ++ last ∷ []
  pub all : TookAll took old front between
  pub ended : took between last false new

-- by whether it answered true to all
abbrev pub Took : {V : Type 0} → (took : V → Page → Bool → V → Type 0) → (old : V) → List Page → (went_on : Bool) → (new : V) → Type 0
Took took old pages true new = TookAll took old pages new
Took took old pages false new = TookUpTo took old pages new

-- some pages are the first of a list
abbrev pub AreFirst : (pages all : List Page) → Type 0
AreFirst pages all = (later : List Page) × (pages ++ later ≡ all)

-- by whether more were wanted after these pages
abbrev pub AreGiven : (pages all : List Page) → (went_on : Bool) → Type 0
AreGiven pages all true = pages ≡ all
AreGiven pages all false = AreFirst pages all

-- by what a walk answers: after a fault of the site, some first pages of it were given
abbrev pub AreOfWalk : Result (Unit {0}) SiteFault → (walk pages : List Page) → (went_on : Bool) → Type 0
AreOfWalk (Ok done) walk pages went_on = AreGiven pages walk went_on
AreOfWalk (Err fault) walk pages went_on = AreFirst pages walk

-- What a visitor took in a walk that answered this: pages, of which `Are` says which they are. Before a fault of the site it
-- had answered true to each.
pub record IsWalk {V : Type 0} (took : V → Page → Bool → V → Type 0) (old new : V) (result : Result (Unit {0}) SiteFault) (Are : List Page → Bool → Type 0) : Type 0 where
  pub pages : List Page
  pub went_on : Bool
  pub taken : Took took old pages went_on new
  pub few : length pages < 2 ^ 64
  pub fault : OnErr result (went_on ≡ true)
  pub are : Are pages went_on

-- what a visitor took of these pages, where nothing else ends a walk: all, or the first ones
pub record IsGiven {V : Type 0} (took : V → Page → Bool → V → Type 0) (old new : V) (all : List Page) : Type 0 where
  pub pages : List Page
  pub went_on : Bool
  pub taken : Took took old pages went_on new
  pub are : AreGiven pages all went_on
