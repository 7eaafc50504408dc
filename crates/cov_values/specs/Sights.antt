-- What is shown by values of nodes, and what is kept of it.
use Rattle.std.specs.Prelude.{◌≡◌, ℕ, Bool, List, Some}
use Rattle.std.specs.List.{AllByRecursion}
use Rattle.std.specs.Option.{IfSome}
use Rattle.cov_values.specs.Replaced.{found_by}
use Rattle.cov_values.specs.Values.{Agrees}
use Rattle.cov_values.specs.declared.replacing.Replaced.{Replaced}
use Rattle.cov_values.specs.declared.sights.Sight.{Sight}
use Rattle.cov_values.specs.declared.values.Evaluated.{Evaluated}

-- a sight, if it wasn't let go, is what is shown by any values of nodes in which its nodes have theirs
abbrev pub IsRight : {T : Type 0} → ((ℕ → Bool) → T) → Sight T → Type 0
IsRight shows s = (f : ℕ → Bool) → Agrees f s.values → IfSome s.shown (λ x. shows f ≡ x)

-- each sight is
abbrev pub AreRight : {T : Type 0} → ((ℕ → Bool) → T) → List (Sight T) → Type 0
AreRight shows ss = AllByRecursion (IsRight shows) ss

-- what is shown by nodes that take the places of others is what those showed
abbrev pub IsRenumbered : {T : Type 0} → List Replaced → ((ℕ → Bool) → T) → ((ℕ → Bool) → T) → Type 0
IsRenumbered rs before after = (f g : ℕ → Bool) → ((n m : ℕ) → found_by rs n ≡ Some m → g n ≡ f m) → after f ≡ before g

-- what is shown after a change is what it brings of what was shown before, by any values in which some nodes have theirs
abbrev pub IsChanged : {T : Type 0} → (List Evaluated → T → T → Type 0) → ((ℕ → Bool) → T) → ((ℕ → Bool) → T) → Type 0
IsChanged {T} brings before after =
    (f : ℕ → Bool) (values : List Evaluated) (x y : T) → brings values x y → Agrees f values → before f ≡ x → after f ≡ y
