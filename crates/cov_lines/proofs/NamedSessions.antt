-- The session of a name, as others are opened, changed and ended.
use Rattle.std.proofs.Common.{◌≡◌, ◌∙◌, refl, sym, ap, subst, ℕ, Bool, true, false, cond, not, List, [], ◌∷◌, ◌++◌, Some}
use Rattle.std.specs.Option.{option_or}
use Rattle.std.specs.Str.{bytes_eq}
use Rattle.std.proofs.lemmas.List.Folds.{find-append}
use Rattle.std.proofs.lemmas.Slice.Eq.{bytes_eq-Decides}
use Rattle.cov_session.specs.Named.{named, with_session, without}
use Rattle.cov_session.specs.Open.{NamedSession}

pub same-name : (n m : List ℕ) → bytes_eq n m ≡ true → n ≡ m
same-name n m h = (bytes_eq-Decides n m).0 h

pub itself : (n : List ℕ) → bytes_eq n n ≡ true
itself n = (bytes_eq-Decides n n).1 refl

-- the session of a name has that name
pub named-has : (ss : List NamedSession) (name : List ℕ) (s : NamedSession) → named ss name ≡ Some s → s.name ≡ name
named-has [] name s h = absurd (cc)
named-has (t ∷ ss) name s h = at (bytes_eq t.name name) refl h (named-has ss name s)
  where
    at : (b : Bool) → bytes_eq t.name name ≡ b → cond b (Some t) (named ss name) ≡ Some s → (named ss name ≡ Some s → s.name ≡ name) → s.name ≡ name
    at true e k rest = let same : t ≡ s = cc in ap (λ u. u.name) (sym same) ∙ same-name t.name name e
    at false e k rest = rest k

-- one that is opened behind it
pub named-before : (ss more : List NamedSession) (name : List ℕ) (s : NamedSession) → named ss name ≡ Some s → named (ss ++ more) name ≡ Some s
named-before ss more name s h = find-append (λ t. bytes_eq t.name name) ss more ∙ ap (λ o. option_or o (named more name)) h

-- another in its place
pub named-changed : (ss : List NamedSession) (name : List ℕ) (s new : NamedSession) → new.name ≡ name → named ss name ≡ Some s → named (with_session ss new) name ≡ Some new
named-changed [] name s new is h = absurd (cc)
named-changed (t ∷ ss) name s new is h =
    at (bytes_eq t.name name) refl (ap (bytes_eq t.name) is) h (named-changed ss name s new is)
  where
    own : bytes_eq new.name name ≡ true
    own = subst (λ n. bytes_eq n name ≡ true) (sym is) (itself name)

    at : (b : Bool) → bytes_eq t.name name ≡ b → bytes_eq t.name new.name ≡ bytes_eq t.name name → cond b (Some t) (named ss name) ≡ Some s → (named ss name ≡ Some s → named (with_session ss new) name ≡ Some new)
        → named (cond (bytes_eq t.name new.name) new t ∷ with_session ss new) name ≡ Some new
    at true e f k rest = ap (λ c. named (cond c new t ∷ with_session ss new) name) (f ∙ e) ∙ ap (λ c. cond c (Some new) (named (with_session ss new) name)) own
    at false e f k rest =
        ap (λ c. named (cond c new t ∷ with_session ss new) name) (f ∙ e)
        ∙ ap (λ c. cond c (Some t) (named (with_session ss new) name)) e
        ∙ rest k

-- another in the place of one with another name
pub named-kept : (ss : List NamedSession) (name : List ℕ) (new : NamedSession) → bytes_eq new.name name ≡ false → named (with_session ss new) name ≡ named ss name
named-kept [] name new other = refl
named-kept (t ∷ ss) name new other = at (bytes_eq t.name new.name) refl (named-kept ss name new other)
  where
    at : (b : Bool) → bytes_eq t.name new.name ≡ b → named (with_session ss new) name ≡ named ss name → named (cond b new t ∷ with_session ss new) name ≡ named (t ∷ ss) name
    at true e rest =
        ap (λ c. cond c (Some new) (named (with_session ss new) name)) other
        ∙ rest
        ∙ sym (ap (λ c. cond c (Some t) (named ss name)) (ap (λ n. bytes_eq n name) (same-name t.name new.name e) ∙ other))
    at false e rest = ap (cond (bytes_eq t.name name) (Some t)) rest

-- one with another name is ended
pub named-left : (ss : List NamedSession) (name gone : List ℕ) → bytes_eq gone name ≡ false → named (without ss gone) name ≡ named ss name
named-left [] name gone other = refl
named-left (t ∷ ss) name gone other = at (bytes_eq t.name gone) refl (named-left ss name gone other)
  where
    at : (b : Bool) → bytes_eq t.name gone ≡ b → named (without ss gone) name ≡ named ss name → named (cond (not b) (t ∷ without ss gone) (without ss gone)) name ≡ named (t ∷ ss) name
    at true e rest = rest ∙ sym (ap (λ c. cond c (Some t) (named ss name)) (ap (λ n. bytes_eq n name) (same-name t.name gone e) ∙ other))
    at false e rest = ap (cond (bytes_eq t.name name) (Some t)) rest
