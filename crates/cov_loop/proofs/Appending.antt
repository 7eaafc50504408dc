-- What is appended in parts, where it is told.
use Rattle.std.proofs.Common.{◌≡◌, refl, sym, ap, ◌∙◌, List, [], ◌++◌, append-nil, append_assoc, Option, Some, None, Result, Ok, Err, OnOk, OnErr}
use Rattle.cov_io.specs.Devices.{AppendsAll, AppendsSome}
use Rattle.cov_loop.specs.Turns.{WritesFront}

-- what holds, where a call failed
pub failing : {T E : Type 0} (r : Result T E) {P : Type 0} → P → OnErr r P
failing (Ok value) p = tt
failing (Err error) p = p

-- and where it didn't
pub doing : {T E : Type 0} (r : Result T E) {P : Type 0} → P → OnOk r P
doing (Ok value) p = p
doing (Err error) p = tt

-- what stays as it is
pub same_all : {X : Type 0} (old new : Option (List X)) → new ≡ old → AppendsAll [] old new
same_all None new same = tt
same_all (Some old) new same = same ∙ ap Some (sym (append-nil old))

pub same_some : {X : Type 0} (xs : List X) (old new : Option (List X)) → new ≡ old → AppendsSome xs old new
same_some xs None new same = tt
same_some xs (Some old) new same = ([], xs, refl, same ∙ ap Some (sym (append-nil old)))

-- all of it, as some of it
pub all_some : {X : Type 0} (xs : List X) (old new : Option (List X)) → AppendsAll xs old new → AppendsSome xs old new
all_some xs None new all = tt
all_some xs (Some old) new all = (xs, [], sym (append-nil xs), all)

-- some of the first part, as some of both
pub some_more : {X : Type 0} (xs ys : List X) (old new : Option (List X)) → AppendsSome xs old new → AppendsSome (xs ++ ys) old new
some_more xs ys None new some = tt
some_more xs ys (Some old) new some = (some.0, some.1 ++ ys, ap (λ zs. zs ++ ys) some.2 ∙ append_assoc some.0 some.1 ys, some.3)

-- all of the first part, and then the second
pub all_then : {X : Type 0} (xs ys : List X) (old mid new : Option (List X)) → AppendsAll xs old mid → AppendsAll ys mid new → AppendsAll (xs ++ ys) old new
all_then xs ys None mid new first next = tt
all_then xs ys (Some old) None new first next = absurd (cc)
all_then xs ys (Some old) (Some mid) new first next =
    let is : mid ≡ old ++ xs = cc in
    next ∙ ap (λ zs. Some (zs ++ ys)) is ∙ ap Some (append_assoc old xs ys)

-- all of the first part, and then some of the second
pub all_then_some : {X : Type 0} (xs ys : List X) (old mid new : Option (List X)) → AppendsAll xs old mid → AppendsSome ys mid new → AppendsSome (xs ++ ys) old new
all_then_some xs ys None mid new first next = tt
all_then_some xs ys (Some old) None new first next = absurd (cc)
all_then_some xs ys (Some old) (Some mid) new first next =
    let is : mid ≡ old ++ xs = cc in (
      xs ++ next.0,
      next.1,
      ap (λ zs. xs ++ zs) next.2 ∙ sym (append_assoc xs next.0 next.1),
      next.3 ∙ ap (λ zs. Some (zs ++ next.0)) is ∙ ap Some (append_assoc old xs next.0),
    )

-- all of it, after what was there
pub told_all : {X : Type 0} (xs before : List X) (old new : Option (List X)) → AppendsAll xs old new → old ≡ Some before → new ≡ Some (before ++ xs)
told_all xs before None new all told = absurd (cc)
told_all xs before (Some old) new all told =
    let is : old ≡ before = cc in
    all ∙ ap (λ zs. Some (zs ++ xs)) is

-- some of it, as a front
pub front_of : {X : Type 0} (xs before : List X) (old new : Option (List X)) → AppendsSome xs old new → old ≡ Some before → WritesFront before xs new
front_of xs before None new some told = absurd (cc)
front_of xs before (Some old) new some told =
    let is : old ≡ before = cc in
    record { first = some.0; rest = some.1; front = some.2; is = some.3 ∙ ap (λ zs. Some (zs ++ some.0)) is }
