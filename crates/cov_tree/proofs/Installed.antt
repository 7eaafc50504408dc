-- Entries in which a plan was installed.
use Rattle.std.proofs.Common.{◌≡◌, ℕ, ◌<◌, ◌≤◌, Bool, true, false, cond, nat_le, List, [], ◌∷◌, map, refl, sym, ap, subst, ◌∙◌, arith}
use Rattle.std.proofs.lemmas.Bool.Decides.{nat_tests}
use Rattle.cov_base.specs.Choices.{with_option}
use Rattle.cov_base.specs.Rows.{RowChange, AreDistinct, AreOnce}
use Rattle.cov_dd.specs.declared.triple.Triple.{Triple}
use Rattle.cov_tree.specs.declared.entry.Entry.{Entry}
use Rattle.cov_tree.specs.declared.dated.DatedEntry.{DatedEntry}
use Rattle.cov_tree.specs.Carried.{AreNodesAt, AreNodesWith, AreOnceAt, AreOnceWith, AreUnreadAt, AreUnreadWith}
use Rattle.cov_tree.specs.Changes.{all_changed, Makes}
use Rattle.cov_tree.specs.Dated.{Dated, entry_at, newest_entry, newest_nodes, nodes_at, rows_at, planned, rows_with, AreUntil}
use Rattle.cov_tree.specs.Entries.{rows_in, nodes_of, AllAreWithin}
use Rattle.cov_tree.specs.Installing.{AreAlike, AreChanged}
use Rattle.cov_tree.proofs.Carried.{now_at}
use Rattle.cov_tree.proofs.Installing.{nodes_are}
use Rattle.cov_tree.specs.Renumbered.{visibilities, AreNodes}
use Rattle.cov_tree.proofs.Holding.{plan_within}
use Rattle.cov_tree.proofs.Planned.{planned_distinct}

pub until_later : (p q : ℕ) (es : List DatedEntry) → p ≤ q → AreUntil p es → AreUntil q es
until_later p q [] le h = tt
until_later p q (e ∷ es) le h = (let low : e.from ≤ p = h.0 in omega (arith, low, le), until_later p q es le h.1)

-- before the position of the change nothing is newer
earlier : (at p : ℕ) (d : Dated) → d.from ≡ at → p < at → nodes_at p d ≡ map (entry_at p) d.entries
earlier at p d from low = let no : nat_le d.from p ≡ false = grind (arith, nat_tests, from, low) in ap (λ b. cond b (newest_nodes d) (map (entry_at p) d.entries)) no

pub still_distinct : (at : ℕ) (plan : List Entry) (es fs : List DatedEntry) → AreDistinct (0 ∷ nodes_of plan) → AreDistinct (0 ∷ nodes_of (map newest_entry es)) → AreChanged at plan es fs
    → AreDistinct (0 ∷ nodes_of (map newest_entry fs))
still_distinct at plan es fs own once changed = subst (λ xs. AreDistinct (0 ∷ nodes_of xs)) (sym changed.newest) (planned_distinct plan (map newest_entry es) own once)

-- a plan is installed in entries that have no change beyond its position
pub record Installs (at : ℕ) (plan : List Entry) (old new : Dated) : Type 0 where
  pub from : new.from ≡ at
  pub later : old.from ≤ at
  pub until : AreUntil old.from old.entries
  pub changed : AreChanged at plan old.entries new.entries

pub installs : (at : ℕ) (given plan : List Entry) (seen old new : Dated) → given ≡ plan → seen ≡ old → new.from ≡ at → old.from ≤ at → AreUntil seen.from seen.entries
    → AreChanged at given seen.entries new.entries → Installs at plan old new
installs at given plan seen old new same view from later until changed = record {
  from = from;
  later = later;
  until = subst (λ (d : Dated). AreUntil d.from d.entries) view until;
  changed = subst (λ (d : Dated). AreChanged at plan d.entries new.entries) view (subst (λ xs. AreChanged at xs seen.entries new.entries) same changed);
}

module _ (at : ℕ) (plan : List Entry) (old new : Dated) (i : Installs at plan old new) where
  from_there : (p : ℕ) → at ≤ p → nodes_at p new ≡ planned plan (newest_nodes old)
  from_there p le = (let from = i.from in now_at new p (omega (arith, from, le))) ∙ i.changed.newest

  before_it : (p : ℕ) → p < at → AreAlike (nodes_at p old) (nodes_at p new)
  before_it p low =
      subst (λ xs. AreAlike (nodes_at p old) xs) (sym (earlier at p new i.from low))
      (subst (λ xs. AreAlike xs (map (entry_at p) new.entries)) (sym (nodes_are p old i.until)) (i.changed.before p low))

  pub installed_kept : AreDistinct (nodes_of plan) → (table : List Triple) → AreNodes table (visibilities old) → AreNodesWith table plan old → AreNodes table (visibilities new)
  installed_kept distinct table h k = i.changed.kept table h (plan_within table plan (newest_nodes old) distinct k)

  pub installed_rows : (table : List Triple) (c : List Bool) (p : ℕ) → at ≤ p → rows_at table c p new ≡ rows_with table c plan old
  installed_rows table c p le = ap (rows_in table c) (from_there p le)

  pub installed_changes : (table : List Triple) (changes : List (RowChange × ℕ)) → Makes table old plan changes → (c : List Bool) (p : ℕ) → at ≤ p
      → rows_at table c p new ≡ all_changed table c changes (rows_at table c p old)
  installed_changes table changes makes c p le = installed_rows table c p le ∙ (let later = i.later in makes.rows c p (omega (arith, later, le)))

  pub rows_before : (table : List Triple) (c : List Bool) (p : ℕ) → p < at → rows_at table c p new ≡ rows_at table c p old
  rows_before table c p low = (before_it p low).rows table c

  pub installed_within : (table : List Triple) → AreNodesAt table old → AreNodesWith table plan old → AreNodesAt table new
  installed_within table before coming p = by (nat_le at p) refl
    where
      by : (b : Bool) → nat_le at p ≡ b → AllAreWithin table (nodes_at p new)
      by true e = let le : at ≤ p = grind (arith, nat_tests, e) in subst (AllAreWithin table) (sym (from_there p le)) coming
      by false e = let low : p < at = grind (arith, nat_tests, e) in (before_it p low).within table (before p)

  pub installed_once : (table : List Triple) → AreOnceAt table old → AreOnceWith table plan old → AreOnceAt table new
  installed_once table before coming p c = by (nat_le at p) refl
    where
      by : (b : Bool) → nat_le at p ≡ b → AreOnce (rows_at table c p new)
      by true e = let le : at ≤ p = grind (arith, nat_tests, e) in subst AreOnce (sym (installed_rows table c p le)) (coming c)
      by false e = let low : p < at = grind (arith, nat_tests, e) in subst AreOnce (sym (rows_before table c p low)) (before p c)

  pub installed_options : (table : List Triple) (count : ℕ) → AreUnreadAt table old count → AreUnreadWith table plan old count → AreUnreadAt table new count
  installed_options table count before coming p o le c long = by (nat_le at p) refl
    where
      by : (b : Bool) → nat_le at p ≡ b → rows_at table (with_option c o true) p new ≡ rows_at table (with_option c o false) p new
      by true e =
          let from_it : at ≤ p = grind (arith, nat_tests, e) in
          installed_rows table (with_option c o true) p from_it ∙ coming o le c long ∙ sym (installed_rows table (with_option c o false) p from_it)
      by false e =
          let low : p < at = grind (arith, nat_tests, e) in
          rows_before table (with_option c o true) p low ∙ before p o le c long ∙ sym (rows_before table (with_option c o false) p low)
