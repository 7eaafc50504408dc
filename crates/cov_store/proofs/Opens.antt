-- A disk that is opened.
use Rattle.std.proofs.Common.{◌≡◌, inl, inr, ⊎_elim, ℕ, ◌<◌, ◌≤◌, List, [], ◌∷◌, ◌++◌, length, get_or, drop, Option, Some, None, IfSome, IsSome, Result, Ok, Err, IfOk, IfErr, refl, sym, ◌∙◌, ap, subst, arith}
use Rattle.std.proofs.lemmas.List.{drop_at}
use Rattle.cov_disk.specs.Images.{Told, Only, LeavesOnly}
use Rattle.cov_edit.specs.History.{options_of}
use Rattle.cov_edit.specs.declared.command.Command.{Command}
use Rattle.cov_engine.specs.States.{EngineValue}
use Rattle.cov_journal.specs.Journal.{header, no_digest, records, stored, Holds, IsWritten}
use Rattle.cov_journal.specs.Moments.{KeepsImages}
use Rattle.cov_journal.specs.Reading.{IsOpened}
use Rattle.cov_journal.proofs.CallerLemmas.{holds_none, joined, one_journal, only_has, weakened}
use Rattle.cov_store.specs.Damages.{HasDamage, IsDamagedAfter}
use Rattle.cov_store.specs.Opening.{GivesHistory, HasReason, IsImageFaultOf, TellsDamage}
use Rattle.cov_store.specs.Replaying.{IsFoundIn, Replays}
use Rattle.cov_store.specs.Stands.{payloads, IsStored, StandsFor}
use Rattle.cov_store.specs.declared.damage.StoreDamage.{StoreDamage}
use Rattle.cov_store.specs.declared.damage.StoreFault.{StoreFault}
use Rattle.cov_store.specs.declared.damage.StoreFault.TheVariants as faults
use Rattle.cov_store.proofs.Standing.{damaged_is_none, no_store_is_none, one_damage, one_history}

-- what a disk had before a step that it tells
told_before : (step : List ℕ → List ℕ → Type 0) (P Q : List ℕ → Type 0) → ((d c : List ℕ) → step d c → Q c → P d) → (old new : Option (List ℕ)) → Told step old new → IfSome new Q → IfSome old P
told_before step P Q to None new told q = tt
told_before step P Q to (Some d) None told q = absurd told
told_before step P Q to (Some d) (Some c) told q = to d c told q

-- the image from before stands for what is stored
stood : (history : List Command) (d c : List ℕ) → IsOpened d c → IsStored c history → StandsFor d history
stood history d c (inl large) s = record { legal = s.legal; fits = s.fits; holds = inr (subst (λ b. IsWritten b (payloads history)) large.2 s.written) }
stood history d c (inr small) s =
    let short : length c ≤ 13 = omega (arith, ap length small.1) in
    record { legal = s.legal; fits = s.fits; holds = inl (holds_none c (payloads history) short (inr s.written), small.0) }

-- a disk that was made anew has no open gate
new_closed : (ps : List (List ℕ)) (behind : List ℕ) → header ++ 0 ∷ [] ≡ stored ps (1 ∷ behind) → ⊥
new_closed ps behind is = first ps (ap (drop 12) is ∙ drop_at header (records no_digest ps ++ 1 ∷ behind) 12 refl)
  where
    first : (qs : List (List ℕ)) → 0 ∷ [] ≡ records no_digest qs ++ 1 ∷ behind → ⊥
    first [] e = absurd (omega (arith, ap (λ l. get_or l 0 0) e))
    first (q ∷ qs) e = absurd (omega (arith, ap (λ l. get_or l 0 0) e))

-- damage that is found was there before
was_large : (history : List Command) (cause : StoreDamage) (d c : List ℕ) → IsOpened d c → IsDamagedAfter history c cause → (13 < length d) × (c ≡ d)
was_large history cause d c (inl large) x = (large.0, large.2)
was_large history cause d c (inr small) x = absurd (new_closed (payloads history) x.behind (sym small.1 ∙ x.bytes))

was_fault : (fault : StoreFault) (d c : List ℕ) → IsOpened d c → IsFoundIn c fault → IsImageFaultOf d fault
was_fault faults.NotAStore d c opened found = absurd found
was_fault (faults.Damaged number cause options) d c opened found =
    let was = was_large found.0 cause d c opened found.2 in
    (record { history = found.0; long = was.0; number_is = found.1.0; after = subst (λ b. IsDamagedAfter found.0 b cause) was.1 found.2 }, found.1.1)
was_fault faults.DiskFault d c opened found = tt
was_fault faults.Memory d c opened found = tt

module _ (old mid : Option (List ℕ)) (told : Told IsOpened old mid) where
  pub opened_stands : (result : Result EngineValue StoreFault) → Replays mid result → IfOk result (λ store. IfSome old (λ image. StandsFor image store.history))
  opened_stands (Ok store) ends = told_before IsOpened (λ image. StandsFor image store.history) (λ image. IsStored image store.history) (stood store.history) old mid told ends.0
  opened_stands (Err fault) found = tt

  pub opened_faulty : (result : Result EngineValue StoreFault) → Replays mid result → IfErr result (λ fault. IfSome old (λ image. IsImageFaultOf image fault))
  opened_faulty (Ok store) ends = tt
  opened_faulty (Err fault) found = told_before IsOpened (λ image. IsImageFaultOf image fault) (λ image. IsFoundIn image fault) (was_fault fault) old mid told found

-- an image holds one list of payloads at most
not_both : (image : List ℕ) → Holds image [] → Holds image ([] ∷ []) → ⊥
not_both image none one = absurd (omega (arith, ap length (one_journal image [] ([] ∷ []) tt (omega arith, tt) none one)))

module _ {D : Type 0} (contents : D → Option (List ℕ)) (images : D → List ℕ → Type 0) (moment : D → ℕ) (images_since : D → ℕ → List ℕ → Type 0)
    (as_read : (disk : D) (c : List ℕ) → contents disk ≡ Some c → images disk c) (told : (disk : D) (c : List ℕ) → images disk c → IsSome (contents disk))
    (counts_now : (disk : D) (t : ℕ) (c : List ℕ) → t ≤ moment disk → images disk c → images_since disk t c) where
  -- what each image at a moment of a run is, each image at a moment of a longer one is that adds none
  pub kept_on : (old mid new : D) (P : List ℕ → Type 0) → LeavesOnly moment images_since old mid P → KeepsImages images moment images_since mid new → LeavesOnly moment images_since old new P
  kept_on old mid new P first keeps =
      joined moment images_since old mid new P first (weakened moment images_since mid new (images mid) P (λ c now. first.each c (counts_now mid (moment old) c first.later now)) keeps.since)

  module _ (old mid : D) (history : List Command) (all : (image : List ℕ) → images old image → StandsFor image history)
      (run : (ps : List (List ℕ)) → ((c : List ℕ) → images old c → Holds c ps) → LeavesOnly moment images_since old mid (λ c. Holds c ps)) where
    -- a disk that tells nothing has no image at any moment
    none_since : contents old ≡ None → LeavesOnly moment images_since old mid (λ image. StandsFor image history)
    none_since is =
        let untold : (ps : List (List ℕ)) (c : List ℕ) → images old c → Holds c ps = λ ps c now. absurd (cc (subst IsSome is (told old c now))) in
        let none = run [] (untold []) in
        let one = run ([] ∷ []) (untold ([] ∷ [])) in
        record {
          later = none.later;
          each = λ c since. absurd (not_both c (none.each c since) (one.each c since));
          before = λ t c le since. ⊎_elim (λ past. inl past) (λ h. ⊎_elim (λ past. inl past) (λ k. absurd (not_both c h k)) (one.before t c le since)) (none.before t c le since);
        }

    some_since : (b : List ℕ) → contents old ≡ Some b → LeavesOnly moment images_since old mid (λ image. StandsFor image history)
    some_since b is =
        let stands = all b (as_read old b is) in
        weakened moment images_since old mid (λ c. Holds c (payloads history)) (λ c. StandsFor c history) (λ c h. record { legal = stands.legal; fits = stands.fits; holds = h })
        (run (payloads history) (λ c now. (all c now).holds))

    by_contents : (o : Option (List ℕ)) → contents old ≡ o → LeavesOnly moment images_since old mid (λ image. StandsFor image history)
    by_contents None is = none_since is
    by_contents (Some b) is = some_since b is

    pub stands_since : LeavesOnly moment images_since old mid (λ image. StandsFor image history)
    stands_since = by_contents (contents old) refl

  pub stored_now : (mid new : D) (result : Result EngineValue StoreFault) → Only (contents mid) (images mid) → KeepsImages images moment images_since mid new → Replays (contents mid) result
      → IfOk result (λ store. (image : List ℕ) → images new image → IsStored image store.history)
  stored_now mid new (Ok store) only keeps ends = λ image now. only_has contents images told mid (λ b. IsStored b store.history) only ends.0 image (keeps.crash.among image now)
  stored_now mid new (Err fault) only keeps found = tt

-- an answer is the one for what the image stands for
gives_some : (image : List ℕ) (history : List Command) (before now : ℕ) (result : Result EngineValue StoreFault) → IfOk result (λ store. StandsFor image store.history) → IfErr result (λ fault. IsImageFaultOf image fault)
    → IfErr result (HasReason before now) → StandsFor image history → GivesHistory history before now result
gives_some image history before now (Ok store) opened faulty reason stands = one_history image store.history history opened stands
gives_some image history before now (Err faults.NotAStore) opened faulty reason stands = absurd ((no_store_is_none image faulty).0 history stands)
gives_some image history before now (Err (faults.Damaged number cause options)) opened faulty reason stands = absurd (damaged_is_none image history number cause faulty.0 stands)
gives_some image history before now (Err faults.DiskFault) opened faulty reason stands = reason
gives_some image history before now (Err faults.Memory) opened faulty reason stands = tt

tells_some : (image : List ℕ) (number : ℕ) (cause : StoreDamage) (before now : ℕ) (result : Result EngineValue StoreFault) → IfOk result (λ store. StandsFor image store.history)
    → IfErr result (λ fault. IsImageFaultOf image fault) → IfErr result (HasReason before now) → (damage : HasDamage image number cause) → TellsDamage damage.history number cause before now result
tells_some image number cause before now (Ok store) opened faulty reason damage = damaged_is_none image store.history number cause damage opened
tells_some image number cause before now (Err faults.NotAStore) opened faulty reason damage = absurd ((no_store_is_none image faulty).1 number cause damage)
tells_some image number cause before now (Err (faults.Damaged k what options)) opened faulty reason damage =
    let one = one_damage image k number what cause faulty.0 damage in
    (one.1, one.2, faulty.1 ∙ ap options_of one.0)
tells_some image number cause before now (Err faults.DiskFault) opened faulty reason damage = reason
tells_some image number cause before now (Err faults.Memory) opened faulty reason damage = tt

pub gives : (o : Option (List ℕ)) (history : List Command) (before now : ℕ) (result : Result EngineValue StoreFault) → IfOk result (λ store. IfSome o (λ image. StandsFor image store.history))
    → IfErr result (λ fault. IfSome o (λ image. IsImageFaultOf image fault)) → IfErr result (HasReason before now) → IfSome o (λ image. StandsFor image history → GivesHistory history before now result)
gives None history before now result opened faulty reason = tt
gives (Some image) history before now (Ok store) opened faulty reason = gives_some image history before now (Ok store) opened faulty reason
gives (Some image) history before now (Err fault) opened faulty reason = gives_some image history before now (Err fault) opened faulty reason

pub tells : (o : Option (List ℕ)) (number : ℕ) (cause : StoreDamage) (before now : ℕ) (result : Result EngineValue StoreFault) → IfOk result (λ store. IfSome o (λ image. StandsFor image store.history))
    → IfErr result (λ fault. IfSome o (λ image. IsImageFaultOf image fault)) → IfErr result (HasReason before now)
    → IfSome o (λ image. (damage : HasDamage image number cause) → TellsDamage damage.history number cause before now result)
tells None number cause before now result opened faulty reason = tt
tells (Some image) number cause before now (Ok store) opened faulty reason = tells_some image number cause before now (Ok store) opened faulty reason
tells (Some image) number cause before now (Err fault) opened faulty reason = tells_some image number cause before now (Err fault) opened faulty reason

-- what a disk stands for it stands for after calls by which it holds what it held
pub stands_on : (old new : Option (List ℕ)) → ((ps : List (List ℕ)) → IfSome old (λ image. Holds image ps → IfSome new (λ now. Holds now ps))) → (history : List Command)
    → IfSome old (λ image. StandsFor image history → IfSome new (λ now. StandsFor now history))
stands_on None new held history = tt
stands_on (Some image) None held history = λ s. tt
stands_on (Some image) (Some now) held history = λ s. record { legal = s.legal; fits = s.fits; holds = held (payloads history) s.holds }

-- and after those that leave what it reads
pub stands_later : (old mid new : Option (List ℕ)) → ((ps : List (List ℕ)) → IfSome old (λ image. Holds image ps → IfSome mid (λ now. Holds now ps))) → new ≡ mid → (history : List Command)
    → IfSome old (λ image. StandsFor image history → IfSome new (λ now. StandsFor now history))
stands_later old mid new held same = stands_on old new (λ ps. subst (λ o. IfSome old (λ image. Holds image ps → IfSome o (λ now. Holds now ps))) (sym same) (held ps))

-- a count that rose since a moment rose since each one before
pub reason_since : (first old new : ℕ) (result : Result EngineValue StoreFault) → first ≤ old → IfErr result (HasReason old new) → IfErr result (HasReason first new)
reason_since first old new (Ok store) later reason = tt
reason_since first old new (Err faults.NotAStore) later reason = tt
reason_since first old new (Err (faults.Damaged number cause options)) later reason = reason
reason_since first old new (Err faults.DiskFault) later reason = omega (arith, later, reason)
reason_since first old new (Err faults.Memory) later reason = tt
