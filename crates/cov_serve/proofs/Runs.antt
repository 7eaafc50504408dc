-- How a run over a disk comes to its end.
use Rattle.std.proofs.Common.{◌≡◌, inl, inr, ⊎_elim, sym, ap, subst, arith, ℕ, ◌≤◌, List, [], ◌++◌, Option, Some, length, length-append}
use Rattle.std.proofs.lemmas.List.{nil_from_length}
use Rattle.cov_disk.specs.Images.{LeavesOnly}
use Rattle.std.specs.Option.{option_map}
use Rattle.cov_io.specs.Progress.{Progress}
use Rattle.cov_loop.specs.Counts.{Counts, counts}
use Rattle.cov_loop.specs.Turns.{ahead_of}
use Rattle.cov_serve.specs.Program.{StopsServing, at_first}
use Rattle.cov_serve.specs.declared.status.Status.{Status}
use Rattle.cov_serve.specs.declared.status.Status.TheVariants as statuses

-- the bytes that are ahead of a reader of lines that has taken nothing
pub ahead_first : (lines : Progress) (left : Option (List ℕ)) (text : List ℕ) → lines ≡ at_first → left ≡ Some text → ahead_of lines left ≡ Some text
ahead_first lines left text is e = subst (λ p. ahead_of p left ≡ Some text) (sym is) (ap (option_map (λ (bytes : List ℕ). [] ++ bytes)) e)

-- nothing was written
pub none_more : (before bytes : List ℕ) (old new : Option (List ℕ)) → new ≡ old → old ≡ Some before → new ≡ Some (before ++ bytes) → bytes ≡ []
none_more before bytes old new same was is =
    let e : before ≡ before ++ bytes = cc in
    nil_from_length bytes (omega (arith, ap length e, length-append before bytes))

-- each image has what follows
pub leaves_weaker : {D : Type 0} (moment : D → ℕ) (images_since : D → ℕ → List ℕ → Type 0) (old new : D) (P Q : List ℕ → Type 0) → ((c : List ℕ) → P c → Q c)
    → LeavesOnly moment images_since old new P → LeavesOnly moment images_since old new Q
leaves_weaker moment images_since old new P Q to run = record {
  later = run.later;
  each = λ c since. to c (run.each c since);
  before = λ t c le since. ⊎_elim (λ past. inl past) (λ p. inr (to c p)) (run.before t c le since);
}

module _ (source sink disk trees given ends : ℕ) where
  -- the disk may have failed before
  pub serving_later : (disk1 : ℕ) (new : Counts) (status : Status) → disk ≤ disk1 → StopsServing (counts source sink disk1 trees given ends) new status → StopsServing (counts source sink disk trees given ends) new status
  serving_later disk1 new statuses.DiskFault le h = omega (arith, le, h)
  serving_later disk1 new status le h = h
