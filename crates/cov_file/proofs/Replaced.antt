-- Lines that show the same by nodes that take the places of others.
use Rattle.std.proofs.Common.{◌≡◌, ◌<◌, ◌≤◌, ℕ, Bool, true, false, true≢false, cond, nat_eq, List, [], ◌∷◌, map, length, slice_index_or, Some, refl, sym, ap, subst, arith}
use Rattle.std.specs.List.{AllZip, filter}
use Rattle.std.specs.Map.{keys_of}
use Rattle.cov_base.proofs.CallerLemmas.{rest-is, rest_of}
use Rattle.cov_base.specs.Replacing.{having}
use Rattle.cov_file.specs.Dated.{DatedLine, file_row_of, newest_vis}
use Rattle.cov_file.specs.Kept.{changes_in, changes_of, dated_lines}
use Rattle.cov_file.specs.Renumbered.{having_node, node_of}
use Rattle.cov_file.specs.Replaced.{AreReplacedLines, IsNewestReplaced}
use Rattle.cov_values.specs.Replaced.{found_by, AreReplaced}
use Rattle.cov_file.specs.Sights.{rows_by}
use Rattle.cov_file.specs.declared.changes.Change.{Change}
use Rattle.cov_values.specs.declared.replacing.Replaced.{Replaced}

-- the lines that are shown by values of their newest nodes
abbrev shown : (ℕ → Bool) → List DatedLine → List DatedLine
shown v ls = filter (λ (l : DatedLine). v (newest_vis l.changes)) ls

-- the rows by nodes that take the places of others
pub rows_replaced : (rs : List Replaced) (f g : ℕ → Bool) → ((n m : ℕ) → found_by rs n ≡ Some m → g n ≡ f m) → (ls ls' : List DatedLine)
    → AreReplacedLines rs ls ls' → rows_by f ls' ≡ rows_by g ls
rows_replaced rs f g same [] [] h = refl
rows_replaced rs f g same [] (m ∷ ms) h = absurd h
rows_replaced rs f g same (l ∷ ls) [] h = absurd h
rows_replaced rs f g same (l ∷ ls) (m ∷ ms) h =
    by (g (newest_vis l.changes)) (f (newest_vis m.changes)) (same _ _ h.0.newest) (rows_replaced rs f g same ls ms h.1)
  where
    by : (b c : Bool) → b ≡ c → rows_by f ms ≡ rows_by g ls → map file_row_of (cond c (m ∷ shown f ms) (shown f ms)) ≡ map file_row_of (cond b (l ∷ shown g ls) (shown g ls))
    by true true e rest = λ j. record { line = sym h.0.line j; text = sym h.0.text j } ∷ rest j
    by true false e rest = absurd (true≢false e)
    by false true e rest = absurd (true≢false (sym e))
    by false false e rest = rest

-- lines whose newest nodes are replaced
pub lines_replaced : (rs : List Replaced) (texts : List (ℕ × List ℕ)) (lists lists' : List (List (ℕ × ℕ))) → AllZip (IsNewestReplaced rs) lists lists'
    → (lines : List ℕ) → AreReplacedLines rs (dated_lines texts lists lines) (dated_lines texts lists' lines)
lines_replaced rs texts lists lists' h [] = tt
lines_replaced rs texts lists lists' h (n ∷ ns) =
    (record { line = refl; text = refl; newest = of (keys_of texts) lists lists' h }, lines_replaced rs texts lists lists' h ns)
  where
    of : (keys : List ℕ) (ls ls' : List (List (ℕ × ℕ))) → AllZip (IsNewestReplaced rs) ls ls' → IsNewestReplaced rs (changes_in keys ls n) (changes_in keys ls' n)
    of [] ls ls' k = refl
    of (key ∷ keys) [] [] k = refl
    of (key ∷ keys) [] (l' ∷ ls') k = absurd k
    of (key ∷ keys) (l ∷ ls) [] k = absurd k
    of (key ∷ keys) (l ∷ ls) (l' ∷ ls') k = by (nat_eq n key) (of keys ls ls' k.1)
      where
        by : (b : Bool) → IsNewestReplaced rs (changes_in keys ls n) (changes_in keys ls' n) → IsNewestReplaced rs (cond b l (changes_in keys ls n)) (cond b l' (changes_in keys ls' n))
        by true rest = k.0
        by false rest = rest

-- changes that get the nodes of a list
pub newest_replaced : (rs : List Replaced) (earlier earlier' cs : List Change) (ns : List ℕ) → AreReplaced rs (map newest_vis (map (changes_of earlier) cs)) ns
    → AllZip (IsNewestReplaced rs) (map (changes_of earlier) cs) (map (changes_of earlier') (having having_node cs ns))
newest_replaced rs earlier earlier' [] ns h = tt
newest_replaced rs earlier earlier' (c ∷ cs) [] h = absurd h
newest_replaced rs earlier earlier' (c ∷ cs) (n ∷ ns) h = (h.0, newest_replaced rs earlier earlier' cs ns h.1)

pub newest_nodes : (earlier cs : List Change) → map newest_vis (map (changes_of earlier) cs) ≡ map node_of cs
newest_nodes earlier [] = refl
newest_nodes earlier (c ∷ cs) = ap (λ ns. c.node ∷ ns) (newest_nodes earlier cs)

-- the nodes of changes, one after another
pub none_replaced : (rs : List Replaced) (cs : List Change) (ms : List ℕ) → length cs < 1 → AreReplaced rs (map node_of cs) ms
none_replaced rs [] ms none = tt
none_replaced rs (c ∷ cs) ms none = absurd (omega (arith, none))

pub next_replaced : (rs : List Replaced) (cs : List Change) (ms : List ℕ) (c : Change) (m : ℕ) → 1 ≤ length cs → 1 ≤ length ms
    → found_by rs (slice_index_or cs 0 c).node ≡ Some (slice_index_or ms 0 m) → AreReplaced rs (map node_of (rest_of cs)) (rest_of ms) → AreReplaced rs (map node_of cs) ms
next_replaced rs [] ms c m some more first rest = absurd (omega (arith, some))
next_replaced rs (x ∷ xs) [] c m some more first rest = absurd (omega (arith, more))
next_replaced rs (x ∷ xs) (y ∷ ys) c m some more first rest = (first, subst (λ (q : List Change × List ℕ). AreReplaced rs (map node_of q.0) q.1) (λ j. (rest-is x xs j, rest-is y ys j)) rest)
