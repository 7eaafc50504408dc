-- A plan that shifts the places of one of its nodes.
use Rattle.std.proofs.Common.{◌≡◌, ℕ, zero, suc, ◌<◌, ◌≤◌, Bool, List, [], ◌∷◌, ◌++◌, map, set, get_or, length, refl, sym, ap, subst, ◌∙◌, arith}
use Rattle.cov_base.specs.Rows.{AreDistinct, AreOnce}
use Rattle.cov_base.specs.declared.number.Kind.TheVariants as kinds
use Rattle.cov_dd.specs.declared.triple.Triple.{Triple}
use Rattle.cov_dd.specs.Diagrams.{Extends}
use Rattle.cov_tree.specs.declared.entry.Entry.{Entry}
use Rattle.cov_tree.specs.declared.entry.Place.{Place}
use Rattle.cov_tree.specs.declared.parting.Shift.{Shift}
use Rattle.cov_tree.specs.Dated.{planned}
use Rattle.cov_tree.specs.Entries.{rows_of, rows_in, nodes_of, kinds_of, AreWithin, AllAreWithin}
use Rattle.cov_tree.specs.Planning.{with_places, CanBeShifted, IsShifted}
use Rattle.cov_tree.specs.Shifts.{change_of, Becomes}
use Rattle.cov_tree.proofs.Once.{one_amid}
use Rattle.cov_tree.proofs.Planned.{Stands, stands, planned_distinct}
use Rattle.cov_tree.proofs.Shifting.{shifted_amid, nodes_amid, kinds_amid}

-- what stands at an index, whatever is named for none
pub same_at : {X : Type 0} (xs : List X) (i : ℕ) (d e : X) → i < length xs → get_or xs i d ≡ get_or xs i e
same_at [] i d e here = absurd (omega (arith, here))
same_at (x ∷ xs) zero d e here = refl
same_at (x ∷ xs) (suc i) d e here = same_at xs i d e (omega (arith, here))

nobody : Entry
nobody = record { node = 0; kind = kinds.File; places = [] }

within_there : (table : List Triple) (front rest : List Entry) (own : Entry) → AllAreWithin table (front ++ own ∷ rest) → AreWithin table own.places
within_there table [] rest own h = h.0
within_there table (e ∷ front) rest own h = within_there table front rest own h.1

set_nodes : (es : List Entry) (i : ℕ) (ps : List Place) (d : Entry) → nodes_of (set es i (with_places ps (get_or es i d))) ≡ nodes_of es
set_nodes [] i ps d = refl
set_nodes (e ∷ es) zero ps d = refl
set_nodes (e ∷ es) (suc i) ps d = ap (λ ns. e.node ∷ ns) (set_nodes es i ps d)

-- a shifted plan has the nodes that it had
pub shifted_nodes : (old new : List Triple) (mid after : List Entry) (i : ℕ) (shift : Shift) (ambition : ℕ) → IsShifted old new mid after i shift ambition → nodes_of after ≡ nodes_of mid
shifted_nodes old new mid after i shift ambition s = ap nodes_of (s.is nobody) ∙ set_nodes mid i s.places nobody

module _ (es plan mid : List Entry) (i node : ℕ) (same : planned mid es ≡ planned plan es) (here : i < length mid) (is : (d : Entry) → (get_or mid i d).node ≡ node)
    (distinct : AreDistinct (0 ∷ nodes_of mid)) (once : AreDistinct (0 ∷ nodes_of es)) where
  abbrev own : Entry
  own = get_or mid i nobody

  there : Stands mid es i own
  there = stands mid es i own distinct.1 here (same_at mid i nobody own here)

  abbrev stood : Entry
  stood = with_places own.places there.own

  before : planned plan es ≡ there.front ++ stood ∷ there.rest
  before = sym same ∙ there.now

  -- its places can be shifted
  pub can_shift : (table : List Triple) → AllAreWithin table (planned plan es) → ((c : List Bool) → AreOnce (rows_in table c (planned plan es))) → CanBeShifted table mid i
  can_shift table within rows = record {
    here = here;
    within = λ d. subst (λ (e : Entry). AreWithin table e.places) (same_at mid i nobody d here) (within_there table there.front there.rest stood (subst (AllAreWithin table) before within));
    once = λ d c n kind.
        subst (λ (e : Entry). length (rows_of table c n kind e.places) ≤ 1) (same_at mid i nobody d here)
        (one_amid table c there.front there.rest stood (subst (λ xs. AreDistinct (map (λ r. r.node) (rows_in table c xs))) before (rows c).1) n kind);
  }

  module _ (old new : List Triple) (grows : Extends old new) (after : List Entry) (shift : Shift) (ambition : ℕ) (s : IsShifted old new mid after i shift ambition) where
    changed : planned after es ≡ there.front ++ with_places s.places stood ∷ there.rest
    changed = ap (λ xs. planned xs es) (s.is nobody) ∙ there.later s.places

    whole : AreDistinct (nodes_of (there.front ++ stood ∷ there.rest))
    whole = subst (λ xs. AreDistinct (nodes_of xs)) there.now (planned_distinct mid es distinct once).1

    pub shifted_plan : AllAreWithin old (planned plan es) → Becomes old new (planned plan es) (planned after es) (change_of node shift) ambition
    shifted_plan within =
        subst (λ xs. Becomes old new xs (planned after es) (change_of node shift) ambition) (sym before)
        (subst (λ xs. Becomes old new (there.front ++ stood ∷ there.rest) xs (change_of node shift) ambition) (sym changed)
        (shifted_amid old new grows node shift ambition s.places stood there.rest (there.node ∙ is nobody) (s.rows nobody) there.front whole (subst (AllAreWithin old) before within)))

    pub plan_nodes : nodes_of (planned after es) ≡ nodes_of (planned plan es)
    plan_nodes = ap nodes_of changed ∙ nodes_amid there.front there.rest stood s.places ∙ ap nodes_of (sym before)

    pub plan_kinds : kinds_of (planned after es) ≡ kinds_of (planned plan es)
    plan_kinds = ap kinds_of changed ∙ kinds_amid there.front there.rest stood s.places ∙ ap kinds_of (sym before)
