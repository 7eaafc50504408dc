-- How the bytes of a source are fed to a replica.
use Rattle.std.proofs.Common.{◌≡◌, ◌∙◌, refl, sym, ap, ℕ, ◌+◌, ◌≤◌, arith, List, [], ◌∷◌, ◌++◌, append-nil, length, length-append, take, Option, Some, None}
use Rattle.std.proofs.lemmas.List.{length-take-le}
use Rattle.cov_import.specs.Sources.{StopsReading, source_counts}
use Rattle.cov_io.specs.Devices.{Reads, Unread}
use Rattle.cov_io.specs.Progress.{CountsGiven}
use Rattle.cov_io.specs.declared.reading.LineFault.{LineFault}
use Rattle.cov_io.specs.declared.reading.LineFault.TheVariants as faults
use Rattle.cov_replica.proofs.CallerLemmas.{piece_goes}
use Rattle.cov_replica.specs.Feeding.{with_piece}
use Rattle.cov_replica.specs.Taken.{taken}
use Rattle.cov_serve.specs.Replicas.{FeedsAll, FeedsOn, FeedsPiece}

-- before anything is fed
pub feeds_none : (text bytes : List ℕ) (left : Option (List ℕ)) → left ≡ Some text → FeedsOn text bytes bytes left
feeds_none text bytes left e = record { rest = text; left_is = e; same = refl }

none_behind : (xs ys : List ℕ) → xs ++ ys ≡ [] → ys ≡ []
none_behind [] ys e = e
none_behind (x ∷ xs) ys e = absurd (cc)

-- what a read gives is fed
pub feeds_piece : (text old new into : List ℕ) (count : ℕ) (left left' : Option (List ℕ)) → left ≡ Some text → Reads count into left left' → new ≡ with_piece old (take count into)
    → FeedsPiece text old new left' count
feeds_piece text old new into count None left' is reads fed = absurd (cc)
feeds_piece text old new into count (Some all) None is reads fed = absurd reads
feeds_piece text old new into count (Some all) (Some rest) is (came, none) fed =
    let same : all ≡ text = cc in (
      record {
        rest = rest;
        left_is = refl;
        same = ap (λ b. taken (b ++ rest)) fed ∙ piece_goes old (take count into) rest ∙ ap (λ b. taken (old ++ b)) (sym came ∙ same);
      },
      λ zero. ap Some (none_behind (take count into) rest (sym came ∙ none zero)),
    )

module _ (text old mid new : List ℕ) (left left' : Option (List ℕ)) (count : ℕ) (before : FeedsOn text old mid left) (next : (rest : List ℕ) → left ≡ Some rest → FeedsPiece rest mid new left' count) where
  -- one piece more
  pub feeds_more : FeedsOn text old new left'
  feeds_more =
      let on = (next before.rest before.left_is).0 in
      record { rest = on.rest; left_is = on.left_is; same = on.same ∙ before.same }

  -- the last piece has no bytes
  pub feeds_last : count ≡ 0 → FeedsAll text old new left'
  feeds_last zero =
      let last = (next before.rest before.left_is).1 zero in
      let none : feeds_more.rest ≡ [] = let same : Some feeds_more.rest ≡ Some [] = sym feeds_more.left_is ∙ last in cc in
      (ap taken (sym (append-nil new)) ∙ ap (λ r. taken (new ++ r)) (sym none) ∙ feeds_more.same, last)

-- what a read gives counts
pub reads_given : (into : List ℕ) (count : ℕ) (left left' : Option (List ℕ)) (given given' : ℕ) → Reads count into left left' → count ≤ length into → given' ≡ given + count → CountsGiven left left' given given'
reads_given into count None left' given given' reads fits more = tt
reads_given into count (Some all) None given given' reads fits more = absurd reads
reads_given into count (Some all) (Some rest) given given' reads fits more =
    let long = ap length reads.0 ∙ length-append (take count into) rest in
    let part = length-take-le count into fits in
    omega (arith, long, part, more)

-- a read that fails gives no byte
pub none_given : (left left' : Option (List ℕ)) (given given' : ℕ) → Unread left left' → given' ≡ given → CountsGiven left left' given given'
none_given None left' given given' same e = tt
none_given (Some left) None given given' same e = absurd (cc)
none_given (Some left) (Some left') given given' same e = let is : left' ≡ left = cc in omega (arith, ap length is, e)

-- a source may have given bytes before
pub stops_later : (fault : LineFault) (faults0 faults1 faults2 given0 given1 given2 ends0 ends1 ends2 : ℕ) → faults0 ≤ faults1 → given0 ≤ given1 → ends1 ≡ ends0
    → StopsReading fault (source_counts faults1 given1 ends1) (source_counts faults2 given2 ends2) → StopsReading fault (source_counts faults0 given0 ends0) (source_counts faults2 given2 ends2)
stops_later faults.ReadFault faults0 faults1 faults2 given0 given1 given2 ends0 ends1 ends2 later more same h = omega (arith, later, h)
stops_later faults.TooMuch faults0 faults1 faults2 given0 given1 given2 ends0 ends1 ends2 later more same h = (omega (arith, more, h.0), h.1 ∙ same)
stops_later faults.Memory faults0 faults1 faults2 given0 given1 given2 ends0 ends1 ends2 later more same h = tt
