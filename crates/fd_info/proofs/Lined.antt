-- Lines that are put one after another.
use Rattle.std.proofs.Common.{◌≡◌, ℕ, List, [], ◌∷◌, ◌++◌, ◌∙◌, ap, append_assoc}
use Rattle.std.proofs.lemmas.List.{append-nil}
use Rattle.fd_info.specs.Info.{line}

-- with one line more, the rest of a whole text is behind it
pub next_line : (old new key put value rest whole : List ℕ) → new ≡ old ++ line key put [] → put ≡ value → old ++ line key value rest ≡ whole → new ++ rest ≡ whole
next_line old new key put value rest whole done same before =
    ap (λ (l : List ℕ). l ++ rest) (done ∙ ap (λ (v : List ℕ). old ++ line key v []) same)
    ∙ append_assoc old (line key value []) rest
    ∙ ap (λ (l : List ℕ). old ++ l) (append_assoc key (value ++ 10 ∷ []) rest)
    ∙ ap (λ (l : List ℕ). old ++ (key ++ l)) (append_assoc value (10 ∷ []) rest)
    ∙ before

-- a line whose value is put in four parts
pub four_parts : (text key t0 t1 t2 t3 t4 new a b c d : List ℕ) → t0 ≡ text ++ key → t1 ≡ t0 ++ a → t2 ≡ t1 ++ b → t3 ≡ t2 ++ c → t4 ≡ t3 ++ d → new ≡ t4 ++ 10 ∷ []
    → new ≡ text ++ line key (a ++ (b ++ (c ++ (d ++ [])))) []
four_parts text key t0 t1 t2 t3 t4 new a b c d p0 p1 p2 p3 p4 p5 =
    let s1 = p1 ∙ ap (λ (l : List ℕ). l ++ a) p0 in
    let s2 = p2 ∙ ap (λ (l : List ℕ). l ++ b) s1 in
    let s3 = p3 ∙ ap (λ (l : List ℕ). l ++ c) s2 in
    let s4 = p4 ∙ ap (λ (l : List ℕ). l ++ d) s3 in
    p5 ∙ ap (λ (l : List ℕ). l ++ 10 ∷ []) s4 ∙ simp (append_assoc, append-nil)
