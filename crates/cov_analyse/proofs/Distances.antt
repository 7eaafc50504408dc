-- Distances from an option on.
use Rattle.std.proofs.Common.{◌≡◌, ℕ, zero, suc, ◌+◌, ◌-◌, ◌<◌, ◌≤◌, Bool, true, false, true≢false, List, [], ◌∷◌, drop, length, refl, sym, ap, ◌∙◌, subst, arith}
use Rattle.cov_base.specs.Choices.{is_on, with_option}
use Rattle.cov_analyse.specs.Bounding.{differing, distance}

none_left : (o : ℕ) → drop {A = Bool} o [] ≡ []
none_left zero = refl
none_left (suc o) = refl

-- the distance from an option on is that option's difference and the distance behind it
pub distance_at : (c d : List Bool) (o : ℕ) → distance (drop o c) (drop o d) ≡ differing (is_on c o) (is_on d o) + distance (drop (suc o) c) (drop (suc o) d)
distance_at [] [] zero = refl
distance_at [] [] (suc o) = refl
distance_at [] (b ∷ d) zero = refl
distance_at (a ∷ c) [] zero = refl
distance_at (a ∷ c) (b ∷ d) zero = refl
distance_at [] (b ∷ d) (suc o) =
    subst (λ c. distance c (drop o d) ≡ differing false (is_on d o) + distance [] (drop (suc o) d)) (none_left o) (distance_at [] d o)
distance_at (a ∷ c) [] (suc o) =
    subst (λ d. distance (drop o c) d ≡ differing (is_on c o) false + distance (drop (suc o) c) []) (none_left o) (distance_at c [] o)
distance_at (a ∷ c) (b ∷ d) (suc o) = distance_at c d o

-- the distance from a later option on is no greater
pub distance_later : (c d : List Bool) (k p q : ℕ) → q ≡ k + p → distance (drop q c) (drop q d) ≤ distance (drop p c) (drop p d)
distance_later c d zero p q h =
    let same : p ≡ q = omega (arith, h) in
    let self : distance (drop p c) (drop p d) ≤ distance (drop p c) (drop p d) = omega arith in
    subst (λ r. distance (drop r c) (drop r d) ≤ distance (drop p c) (drop p d)) same self
distance_later c d (suc k) p q h =
    let same : suc (k + p) ≡ q = omega (arith, h) in
    let less : distance (drop (suc (k + p)) c) (drop (suc (k + p)) d) ≤ distance (drop p c) (drop p d) = omega (arith, distance_later c d k p (k + p) refl, distance_at c d (k + p)) in
    subst (λ r. distance (drop r c) (drop r d) ≤ distance (drop p c) (drop p d)) same less

same_none : (a b : Bool) → differing a b ≤ 0 → a ≡ b
same_none false false h = refl
same_none false true h = absurd (omega (arith, h))
same_none true false h = absurd (omega (arith, h))
same_none true true h = refl

-- choices that are no farther apart from an option on than behind a later one agree on that
pub agree_at : (c d : List Bool) (p q : ℕ) → p ≤ q → distance (drop p c) (drop p d) ≤ distance (drop (suc q) c) (drop (suc q) d) → is_on c q ≡ is_on d q
agree_at c d p q low h =
    same_none (is_on c q) (is_on d q) (omega (arith, h, distance_at c d q, distance_later c d (q - p) p q (omega (arith, low))))

differing_none : (a b : Bool) → a ≡ b → differing a b ≡ 0
differing_none false false h = refl
differing_none false true h = absurd (true≢false (sym h))
differing_none true false h = absurd (true≢false h)
differing_none true true h = refl

-- options on which choices agree don't count
pub distance_skip : (c d : List Bool) (k p q : ℕ) → q ≡ k + p → ((r : ℕ) → p ≤ r → r < q → is_on c r ≡ is_on d r) → distance (drop p c) (drop p d) ≡ distance (drop q c) (drop q d)
distance_skip c d zero p q h agree = let is : p ≡ q = omega (arith, h) in ap (λ r. distance (drop r c) (drop r d)) is
distance_skip c d (suc k) p q h agree =
    let before = distance_skip c d k p (k + p) refl (λ r low less. agree r low (omega (arith, less, h))) in
    let none = differing_none (is_on c (k + p)) (is_on d (k + p)) (agree (k + p) (omega arith) (omega (arith, h))) in
    let next : suc (k + p) ≡ q = omega (arith, h) in
    omega (arith, before, distance_at c d (k + p), none) ∙ ap (λ r. distance (drop r c) (drop r d)) next

pub distance_self : (c : List Bool) (p : ℕ) → distance (drop p c) (drop p c) ≡ 0
distance_self [] zero = refl
distance_self [] (suc p) = refl
distance_self (b ∷ c) zero = omega (arith, differing_none b b refl, distance_self c 0)
distance_self (b ∷ c) (suc p) = distance_self c p

-- setting an option leaves those behind it
pub drop_behind : (c : List Bool) (o : ℕ) (on : Bool) → drop (suc o) (with_option c o on) ≡ drop (suc o) c
drop_behind [] o on = refl
drop_behind (b ∷ c) zero on = refl
drop_behind (b ∷ c) (suc o) on = drop_behind c o on

differing_most : (a b : Bool) → differing a b ≤ 1
differing_most false false = omega arith
differing_most false true = omega arith
differing_most true false = omega arith
differing_most true true = omega arith

-- no two choices differ on more options than they have
pub distance_most : (c d : List Bool) → length d ≡ length c → distance c d ≤ length c
distance_most [] [] h = omega arith
distance_most [] (b ∷ d) h = absurd (omega (arith, h))
distance_most (a ∷ c) [] h = absurd (omega (arith, h))
distance_most (a ∷ c) (b ∷ d) h = omega (arith, differing_most a b, distance_most c d (omega (arith, h)))
