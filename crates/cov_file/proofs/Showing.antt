-- What a file shows, by the values of the nodes of its lines.
use Rattle.std.specs.Prelude.{filter}
use Rattle.std.proofs.Common.{◌≡◌, ℕ, ◌≤◌, Bool, true, false, cond, nat_eq, List, [], ◌∷◌, map, Option, Some, None, refl, sym, ap, subst, ◌∙◌, arith}
use Rattle.std.specs.List.{AllByRecursion}
use Rattle.std.specs.Option.{IfSome}
use Rattle.std.specs.Map.{keys_of}
use Rattle.cov_base.specs.declared.file_row.FileRow.{FileRow}
use Rattle.cov_dd.proofs.CallerLemmas.{value-constant}
use Rattle.cov_dd.specs.declared.triple.Triple.{Triple}
use Rattle.cov_file.specs.Dated.{DatedLine, vis_at, newest_vis, file_row_of, is_visible}
use Rattle.cov_file.specs.declared.changes.Change.{Change}
use Rattle.cov_file.specs.Kept.{changes_before, changes_of, changes_in, dated_lines}
use Rattle.cov_file.proofs.Later.{reached}
use Rattle.cov_file.specs.Sights.{ShownByValues, rows_by, AreNewest, AreNewestValues, AreSights}
use Rattle.cov_values.specs.Values.{on_choice, Agrees}
use Rattle.cov_values.specs.declared.sights.Sight.{Sight}
use Rattle.cov_values.specs.declared.values.Evaluated.{Evaluated}

-- lines that two tests tell apart alike are shown by both alike
same_filter : (s t : DatedLine → Bool) (ls : List DatedLine) → AllByRecursion (λ l. s l ≡ t l) ls → map file_row_of (filter s ls) ≡ map file_row_of (filter t ls)
same_filter s t [] h = refl
same_filter s t (l ∷ ls) h =
    ap (λ b. map file_row_of (cond b (l ∷ filter s ls) (filter s ls))) h.0 ∙ by (t l) (same_filter s t ls h.1)
  where
    by : (b : Bool) → map file_row_of (filter s ls) ≡ map file_row_of (filter t ls) → map file_row_of (cond b (l ∷ filter s ls) (filter s ls)) ≡ map file_row_of (cond b (l ∷ filter t ls) (filter t ls))
    by true rest = ap (λ rs. file_row_of l ∷ rs) rest
    by false rest = rest

pub shown_by_values : ShownByValues
shown_by_values table before c d p q ls h = same_filter (is_visible table c p) (is_visible before d q) ls h

-- what holds of no changes and of those of each line holds of each line's changes
each_line : (P : List (ℕ × ℕ) → Type 0) (texts : List (ℕ × List ℕ)) (lists : List (List (ℕ × ℕ))) (lines : List ℕ)
    → P [] → AllByRecursion P lists → AllByRecursion (λ l. P l.changes) (dated_lines texts lists lines)
each_line P texts lists [] none h = tt
each_line P texts lists (n ∷ ns) none h = (of (keys_of texts) lists h, each_line P texts lists ns none h)
  where
    of : (keys : List ℕ) (ls : List (List (ℕ × ℕ))) → AllByRecursion P ls → P (changes_in keys ls n)
    of [] ls k = none
    of (key ∷ keys) [] k = none
    of (key ∷ keys) (l ∷ ls) k = by (nat_eq n key) (of keys ls k.1)
      where
        by : (b : Bool) → P (changes_in keys ls n) → P (cond b l (changes_in keys ls n))
        by true rest = k.0
        by false rest = rest

-- lines whose changes are none later than a position show from there on what their newest nodes show
pub are_newest : (texts : List (ℕ × List ℕ)) (lists : List (List (ℕ × ℕ))) (newest : ℕ) (lines : List ℕ)
    → ((p : ℕ) → newest ≤ p → AllByRecursion (λ cs. vis_at cs p ≡ newest_vis cs) lists) → AreNewest newest (dated_lines texts lists lines)
are_newest texts lists newest lines h table c p later =
    same_filter (is_visible table c p) (λ l. on_choice table c (newest_vis l.changes)) (dated_lines texts lists lines)
    (each_line (λ cs. on_choice table c (vis_at cs p) ≡ on_choice table c (newest_vis cs)) texts lists lines refl (on lists (h p later)))
  where
    on : (ls : List (List (ℕ × ℕ))) → AllByRecursion (λ cs. vis_at cs p ≡ newest_vis cs) ls → AllByRecursion (λ cs. on_choice table c (vis_at cs p) ≡ on_choice table c (newest_vis cs)) ls
    on [] k = tt
    on (l ∷ ls) k = (ap (on_choice table c) k.0, on ls k.1)

-- and values that agree with those of their newest nodes show what the newest nodes show
pub by_newest_values : (table : List Triple) (c : List Bool) (texts : List (ℕ × List ℕ)) (lists : List (List (ℕ × ℕ))) (lines : List ℕ) (values : List Evaluated)
    → AreNewestValues table c lists values → (f : ℕ → Bool) → Agrees f values → rows_by f (dated_lines texts lists lines) ≡ rows_by (on_choice table c) (dated_lines texts lists lines)
by_newest_values table c texts lists lines values h f agrees =
    same_filter (λ l. f (newest_vis l.changes)) (λ l. on_choice table c (newest_vis l.changes)) (dated_lines texts lists lines)
    (each_line (λ cs. f (newest_vis cs) ≡ on_choice table c (newest_vis cs)) texts lists lines (agrees.0 ∙ sym (value-constant table 0 c (omega arith))) (h f agrees))

-- the newest nodes of lines have values on a choice where the nodes of their newest changes have
pub newest_valued : (table : List Triple) (c : List Bool) (f : ℕ → Bool) (earlier newest : List Change)
    → AllByRecursion (λ x. f x.node ≡ on_choice table c x.node) newest → AllByRecursion (λ cs. f (newest_vis cs) ≡ on_choice table c (newest_vis cs)) (map (changes_of earlier) newest)
newest_valued table c f earlier [] h = tt
newest_valued table c f earlier (x ∷ xs) h = (h.0, newest_valued table c f earlier xs h.1)

-- changes none of which is later than a position have their newest node from there on
pub all_latest : (earlier newest : List Change) (from p : ℕ) → from ≤ p → AllByRecursion (λ c. c.from ≤ from) newest → AllByRecursion (λ cs. vis_at cs p ≡ newest_vis cs) (map (changes_of earlier) newest)
all_latest earlier [] from p later h = tt
all_latest earlier (c ∷ cs) from p later h = (
  ap (λ b. cond b c.node (vis_at (changes_before earlier c.before) p)) (reached c.from p (omega (arith, h.0, later))),
  all_latest earlier cs from p later h.1,
)

-- nothing is kept
pub none_kept : (ls : List DatedLine) (ks : List (Sight (List FileRow))) → ks ≡ [] → AreSights ls ks
none_kept ls ks e = subst (AreSights ls) (sym e) tt

-- what is kept stays right where the lines are the same
pub sights_stay : (texts texts' : List (ℕ × List ℕ)) (lists lists' : List (List (ℕ × ℕ))) (lines lines' : List ℕ) (ks : List (Sight (List FileRow)))
    → texts' ≡ texts → lists' ≡ lists → lines' ≡ lines → AreSights (dated_lines texts lists lines) ks → AreSights (dated_lines texts' lists' lines') ks
sights_stay texts texts' lists lists' lines lines' ks same_texts same_lists same_lines h =
    subst (λ ls. AreSights ls ks) (λ j. dated_lines (sym same_texts j) (sym same_lists j) (sym same_lines j)) h

pub if_some : {A : Type 0} (o : Option A) (P Q : A → Type 0) → ((x : A) → P x → Q x) → IfSome o P → IfSome o Q
if_some None P Q f h = h
if_some (Some x) P Q f h = f x h
