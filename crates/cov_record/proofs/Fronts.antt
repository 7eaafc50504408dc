-- What stands at the front of bytes, and what follows it.
use Rattle.std.proofs.Common.{◌≡◌, ℕ, Bool, true, false, List, ◌++◌, Some, None, refl, ap, subst, ◌∙◌}
use Rattle.std.proofs.lemmas.Option.{none-some, same_Some}
use Rattle.cov_record.specs.Reading.{Front, behind, given}

-- a form with what follows it is one form and one rest
pub pair_of : {X : Type 0} (x y : X) (s r : List ℕ) → ◌≡◌ {A = Front X} (Some (x, s)) (Some (y, r)) → (x ≡ y) × (s ≡ r)
pair_of x y s r h = let p = same_Some (x, s) (y, r) h in (ap (λ q. q.0) p, ap (λ q. q.1) p)

pub given_some : {X : Type 0} (b : Bool) (x y : X) (s r : List ℕ) → given b x s ≡ Some (y, r) → (b ≡ true) × (x ≡ y) × (s ≡ r)
given_some true x y s r h = let p = pair_of x y s r h in (refl, p.0, p.1)
given_some false x y s r h = absurd (none-some (y, r) h)

pub given_true : {X : Type 0} (b : Bool) (x : X) (s : List ℕ) → b ≡ true → given b x s ≡ Some (x, s)
given_true b x s h = ap (λ b. given b x s) h

pub behind_some : {X Y : Type 0} (f : Front X) (more : X → List ℕ → Front Y) (y : Y) (r : List ℕ) → behind f more ≡ Some (y, r)
    → (x : X) × (mid : List ℕ) × (f ≡ Some (x, mid)) × (more x mid ≡ Some (y, r))
behind_some None more y r h = absurd (none-some (y, r) h)
behind_some (Some p) more y r h = (p.0, p.1, refl, h)

pub behind_at : {X Y : Type 0} (f : Front X) (more : X → List ℕ → Front Y) (out : Front Y) (x : X) (s : List ℕ) → f ≡ Some (x, s) → more x s ≡ out → behind f more ≡ out
behind_at f more out x s e h = ap (λ f. behind f more) e ∙ h

module _ {X : Type 0} (spelling : X → List ℕ) (Fits : X → Type 0) where
  -- bytes are those of a form that fits, and then others
  abbrev pub Begins : List ℕ → X → List ℕ → Type 0
  Begins bs x r = Fits x × (bs ≡ spelling x ++ r)

  -- the form that is read is that at their front
  pub begins_with : (x y : X) (s r bs : List ℕ) → Begins bs x s → ◌≡◌ {A = Front X} (Some (x, s)) (Some (y, r)) → Begins bs y r
  begins_with x y s r bs w h = let p = pair_of x y s r h in (subst Fits p.0 w.0, w.1 ∙ (λ i. spelling (p.0 i) ++ p.1 i))
