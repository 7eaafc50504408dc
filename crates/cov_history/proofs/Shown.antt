-- The lines of a replay.
use Rattle.std.proofs.Common.{◌≡◌, ℕ, Bool, true, List, [], ◌∷◌, length, map, ap, subst, ◌∙◌}
use Rattle.std.specs.List.{filter, AllByRecursion}
use Rattle.std.proofs.Math.Seq.{take-length}
use Rattle.cov_base.specs.Addresses.{stands_before, IsLineOf, AreInOrder}
use Rattle.cov_base.proofs.CallerLemmas.{all-filter, in_order-filter}
use Rattle.cov_edit.specs.declared.command.Command.{Command}
use Rattle.cov_edit.specs.Numbering.{numbers_of}
use Rattle.cov_edit.specs.Variant.{Variant, line_address}
use Rattle.cov_edit.specs.Replay.{replay}
use Rattle.cov_history.specs.Kept.{Kept, is_seen, the_item, kept_address, kept_of}
use Rattle.cov_history.proofs.Standing.{all-mapped, holding-stands}
use Rattle.cov_history.proofs.Replays.{replay-seen}

in_order-items : {X : Type 0} (address : X → List ℕ) (ks : List (Kept X)) → AreInOrder (λ k. address (the_item k)) ks → AreInOrder address (map the_item ks)
in_order-items address [] o = tt
in_order-items address (k ∷ ks) o = (
  all-mapped (λ j. stands_before (address k.item) (address j.item) ≡ true) (λ x. stands_before (address k.item) (address x) ≡ true) the_item (λ j h. h) ks o.0,
  in_order-items address ks o.1,
)

pub replay-stands : (c : List Bool) (history : List Command)
    → AreInOrder line_address (replay c history).lines
    × AllByRecursion (λ l. IsLineOf (numbers_of history).addresses (length (numbers_of history).addresses) l.address) (replay c history).lines
replay-stands c history =
    let stands = (holding-stands history).1 in
    subst (λ (v : Variant). AreInOrder line_address v.lines × AllByRecursion (λ l. IsLineOf (numbers_of history).addresses (length (numbers_of history).addresses) l.address) v.lines)
    (replay-seen c (length history) history ∙ ap (replay c) (take-length history)) (
      in_order-items line_address (filter (is_seen c (length history)) (kept_of history))
          (in_order-filter kept_address (is_seen c (length history)) (kept_of history) stands.in_order),
      all-mapped (λ k. IsLineOf (numbers_of history).addresses (length (numbers_of history).addresses) (kept_address k))
          (λ l. IsLineOf (numbers_of history).addresses (length (numbers_of history).addresses) l.address) the_item (λ k h. h)
          (filter (is_seen c (length history)) (kept_of history))
          (all-filter (λ k. IsLineOf (numbers_of history).addresses (length (numbers_of history).addresses) (kept_address k)) (is_seen c (length history)) (kept_of history) stands.numbered_lines),
    )
