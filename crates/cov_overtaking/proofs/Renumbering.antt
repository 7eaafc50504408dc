-- The marks of commits with other nodes in the places of theirs.
use Rattle.std.proofs.Common.{◌≡◌, ℕ, zero, suc, ◌+◌, ◌<◌, ◌≤◌, Bool, ◌&&◌, ◌||◌, nat_eq, List, [], ◌∷◌, ◌++◌, length, length-append, length-take-le, map, take, take-add, drop, replicate, set, get_or, append_assoc, append-nil, refl, sym, ap, subst, ◌∙◌, arith}
use Rattle.std.specs.List.{AllByRecursion}
use Rattle.std.proofs.lemmas.List.{drop_all, drop_more, drop-set-lt, length-drop, length-map, length-replicate, map-append, take_all, take_more_set}
use Rattle.cov_base.proofs.CallerLemmas.{parted}
use Rattle.cov_dd.specs.declared.triple.Triple.{Triple}
use Rattle.cov_dd.specs.Diagrams.{diagram_size}
use Rattle.cov_dd.specs.Sweeps.{AreRenumbered, IsRenumbered}
use Rattle.cov_expr.specs.Formula.{Formula}
use Rattle.cov_edit.specs.declared.command.Command.{Command}
use Rattle.cov_edit.specs.declared.command.Command.TheVariants as commands
use Rattle.cov_edit.specs.declared.sided.Sided.{Sided}
use Rattle.cov_overtaking.specs.Marks.{nodes_within, within_of, mark_nodes, all_mark_nodes, mark_having, marks_having, without_nodes, IsMark, AreMarks}
use Rattle.cov_overtaking.specs.Touches.{have_node_on}
use Rattle.cov_overtaking.specs.declared.mark.CommitMark.{CommitMark}
use Rattle.cov_overtaking.proofs.Marking.{within-all}

-- how many nodes marks keep, the first and the others
nodes-count : (m : CommitMark) (ms : List CommitMark) → length (all_mark_nodes (m ∷ ms)) ≡ length (mark_nodes m) + length (all_mark_nodes ms)
nodes-count m ms = length-append (mark_nodes m) (all_mark_nodes ms)

rest-room : (m : CommitMark) (ms : List CommitMark) (ns : List ℕ) → length (all_mark_nodes (m ∷ ms)) ≤ length ns → length (all_mark_nodes ms) ≤ length (drop (length (mark_nodes m)) ns)
rest-room m ms ns room = let count = nodes-count m ms in let left = length-drop (length (mark_nodes m)) ns in omega (arith, room, count, left)

own-room : (m : CommitMark) (ms : List CommitMark) (ns : List ℕ) → length (all_mark_nodes (m ∷ ms)) ≤ length ns → length (mark_nodes m) ≤ length ns
own-room m ms ns room = let count = nodes-count m ms in omega (arith, room, count)

-- with other nodes marks are else as they were
mark-shape : (m : CommitMark) (ns : List ℕ) → length (mark_nodes m) ≤ length ns → without_nodes (mark_having m ns) ≡ without_nodes m
mark-shape m ns room =
    let left = length-drop 1 ns in
    let long : length (take (length m.each) (drop 1 ns)) ≡ length m.each = length-take-le (length m.each) (drop 1 ns) (omega (arith, room, left)) in
    λ i. record { position = m.position; node = 0; touched = m.touched; each = replicate (long i) 0 }

pub marks-shape : (ms : List CommitMark) (ns : List ℕ) → length (all_mark_nodes ms) ≤ length ns → map without_nodes (marks_having ms ns) ≡ map without_nodes ms
marks-shape [] ns room = refl
marks-shape (m ∷ ms) ns room = λ i. mark-shape m ns (own-room m ms ns room) i ∷ marks-shape ms (drop (length (mark_nodes m)) ns) (rest-room m ms ns room) i

pub marks-length : (ms : List CommitMark) (ns : List ℕ) → length (marks_having ms ns) ≡ length ms
marks-length [] ns = refl
marks-length (m ∷ ms) ns = ap suc (marks-length ms (drop (length (mark_nodes m)) ns))

-- and they keep those nodes
mark-numbers : (m : CommitMark) (ns : List ℕ) → length (mark_nodes m) ≤ length ns → mark_nodes (mark_having m ns) ≡ take (length (mark_nodes m)) ns
mark-numbers m [] room = absurd (omega (arith, room))
mark-numbers m (n ∷ ns) room = refl

pub marks-numbers : (ms : List CommitMark) (ns : List ℕ) → length (all_mark_nodes ms) ≤ length ns → all_mark_nodes (marks_having ms ns) ≡ take (length (all_mark_nodes ms)) ns
marks-numbers [] ns room = refl
marks-numbers (m ∷ ms) ns room =
    (λ i. mark-numbers m ns (own-room m ms ns room) i ++ marks-numbers ms (drop (length (mark_nodes m)) ns) (rest-room m ms ns room) i)
    ∙ sym (take-add (length (mark_nodes m)) (length (all_mark_nodes ms)) ns) ∙ ap (λ k. take k ns) (sym (nodes-count m ms))

-- one mark more has its nodes
module _ (now : List CommitMark) (i k : ℕ) (ahead next : List ℕ) (m d own : CommitMark) (is : m ≡ get_or now i d) (within : i < length now) (at : k ≡ i + 1)
    (room : length (all_mark_nodes (drop i now)) ≤ length ahead) where
  abbrev rest : List CommitMark
  rest = drop k now

  parts : drop i now ≡ m ∷ rest
  parts = drop_more now i d within ∙ (λ j. sym is j ∷ drop (sym at j) now)

  all-room : length (all_mark_nodes (m ∷ rest)) ≤ length ahead
  all-room = subst (λ ms. length (all_mark_nodes ms) ≤ length ahead) parts room

  pub here-room : length (mark_nodes m) ≤ length ahead
  here-room = own-room m rest ahead all-room

  module _ (renumbered : own ≡ mark_having m ahead) (left : next ≡ drop (length (mark_nodes m)) ahead) where
    rest-is : drop k (set now i own) ≡ rest
    rest-is = drop-set-lt k now i own (omega (arith, at))

    pub next-room : length (all_mark_nodes (drop k (set now i own))) ≤ length next
    next-room = subst (λ (q : List CommitMark × List ℕ). length (all_mark_nodes q.0) ≤ length q.1) (λ j. (sym rest-is j, sym left j)) (rest-room m rest ahead all-room)

    pub next-items : (all : List CommitMark) → take i now ++ marks_having (drop i now) ahead ≡ all → take k (set now i own) ++ marks_having (drop k (set now i own)) next ≡ all
    next-items all so_far =
        (λ j. (ap (λ n. take n (set now i own)) at ∙ take_more_set now i own within) j ++ marks_having (rest-is j) (left j))
        ∙ append_assoc (take i now) (own ∷ []) (marks_having rest (drop (length (mark_nodes m)) ahead))
        ∙ ap (λ x. take i now ++ x ∷ marks_having rest (drop (length (mark_nodes m)) ahead)) renumbered
        ∙ ap (λ ms. take i now ++ marks_having ms ahead) (sym parts) ∙ so_far

-- behind the last there is none
pub all-items : (now all : List CommitMark) (i : ℕ) (ahead : List ℕ) → length now ≤ i → take i now ++ marks_having (drop i now) ahead ≡ all → now ≡ all
all-items now all i ahead past so_far =
    sym (append-nil now) ∙ (λ j. sym (take_all i now past) j ++ marks_having (sym (drop_all i now past) j) ahead) ∙ so_far

-- a mark whose nodes are renumbered
module _ (ts us : List Triple) (by : ℕ → ℕ) where
  abbrev IsMoved : ℕ → Type 0
  IsMoved a = IsRenumbered ts us a (by a)

  moved-within : (count n : ℕ) (each : List ℕ) → nodes_within count (by n) (map by each) ≡ map by (nodes_within count n each)
  moved-within count n [] = alike count
    where
      alike : (k : ℕ) → replicate k (by n) ≡ map by (replicate k n)
      alike zero = refl
      alike (suc k) = ap (λ l. by n ∷ l) (alike k)
  moved-within count n (m ∷ each) = refl

  moved-known : (ns : List ℕ) → AllByRecursion IsMoved ns → AllByRecursion (λ n. n < diagram_size us) (map by ns)
  moved-known [] all = tt
  moved-known (n ∷ ns) all = (all.0.within, moved-known ns all.1)

  moved-have : (xs ns : List ℕ) → AllByRecursion IsMoved ns → (x : ℕ) (c : List Bool) → have_node_on us xs (map by ns) x c ≡ have_node_on ts xs ns x c
  moved-have [] ns all x c = refl
  moved-have (y ∷ xs) [] all x c = refl
  moved-have (y ∷ xs) (n ∷ ns) all x c = λ i. (nat_eq y x && all.0.value c i) || moved-have xs ns all.1 x c i

  module _ (count p : ℕ) (ambition : Formula ℕ) (ss : List Sided) (m k : CommitMark) (shape : without_nodes k ≡ without_nodes m) (node : k.node ≡ by m.node) (each : k.each ≡ map by m.each)
      (all : AllByRecursion IsMoved (mark_nodes m)) (h : IsMark ts count p ambition ss m) where
    touched-same : k.touched ≡ m.touched
    touched-same = ap (λ (x : CommitMark). x.touched) shape

    within-is : within_of k ≡ map by (within_of m)
    within-is = (λ i. nodes_within (length (touched-same i)) (node i) (each i)) ∙ moved-within (length m.touched) m.node m.each

    all-within : AllByRecursion IsMoved (within_of m)
    all-within = within-all IsMoved (length m.touched) m.node m.each all.0 all.1

    mark-renumbered : IsMark us count p ambition ss k
    mark-renumbered = record {
      position = ap (λ (x : CommitMark). x.position) shape ∙ h.position;
      touches = touched-same ∙ h.touches;
      of_table = subst (AllByRecursion (λ n. n < diagram_size us)) (λ i. sym node i ∷ sym each i) (moved-known (mark_nodes m) all);
      long = ap length within-is ∙ length-map (within_of m) by ∙ h.long ∙ ap length (sym touched-same);
      are = λ x c. (λ i. have_node_on us (touched-same i) (within-is i) x c) ∙ moved-have m.touched (within_of m) all-within x c ∙ h.are x c;
      named = h.named;
    }

  split-all : (xs ys : List ℕ) → AllByRecursion IsMoved (xs ++ ys) → AllByRecursion IsMoved xs × AllByRecursion IsMoved ys
  split-all [] ys all = (tt, all)
  split-all (x ∷ xs) ys all = let rest = split-all xs ys all.1 in ((all.0, rest.0), rest.1)

  no-marks : (ks : List CommitMark) → map without_nodes ks ≡ [] → ks ≡ []
  no-marks [] none = refl
  no-marks (k ∷ ks) none = absurd (cc)

  each-length : (k m : CommitMark) → without_nodes k ≡ without_nodes m → length k.each ≡ length m.each
  each-length k m shape = sym (length-replicate (length k.each) 0) ∙ ap (λ (x : CommitMark). length x.each) shape ∙ length-replicate (length m.each) 0

  moved-marks : (count p : ℕ) (later : List Command) (ms ks : List CommitMark) → map without_nodes ks ≡ map without_nodes ms → all_mark_nodes ks ≡ map by (all_mark_nodes ms)
      → AllByRecursion IsMoved (all_mark_nodes ms) → AreMarks ts count p later ms → AreMarks us count p later ks
  moved-marks count p [] ms ks shape numbers all h = no-marks ks (shape ∙ ap (map without_nodes) h)
  moved-marks count p (commands.Option name ∷ later) ms ks shape numbers all h = moved-marks count (p + 1) later ms ks shape numbers all h
  moved-marks count p (commands.Constraint expr ∷ later) ms ks shape numbers all h = moved-marks count (p + 1) later ms ks shape numbers all h
  moved-marks count p (commands.Prefer expr ∷ later) ms ks shape numbers all h = moved-marks count (p + 1) later ms ks shape numbers all h
  moved-marks count p (commands.Default option on ∷ later) ms ks shape numbers all h = moved-marks count (p + 1) later ms ks shape numbers all h
  moved-marks count p (commands.Commit base choice ambition ss ∷ later) [] ks shape numbers all h = absurd h
  moved-marks count p (commands.Commit base choice ambition ss ∷ later) (m ∷ ms) [] shape numbers all h = absurd (cc)
  moved-marks count p (commands.Commit base choice ambition ss ∷ later) (m ∷ ms) (k ∷ ks) shape numbers all h =
      let first : without_nodes k ≡ without_nodes m = cc in
      let others : map without_nodes ks ≡ map without_nodes ms = cc in
      let number : k.node ≡ by m.node = cc in
      let joined : (k.each ++ all_mark_nodes ks) ≡ map by (m.each ++ all_mark_nodes ms) = cc in
      let tails : (k.each ++ all_mark_nodes ks) ≡ (map by m.each ++ map by (all_mark_nodes ms)) = joined ∙ map-append by m.each (all_mark_nodes ms) in
      let split = parted k.each (all_mark_nodes ks) (map by m.each) (map by (all_mark_nodes ms)) (each-length k m first ∙ sym (length-map m.each by)) tails in
      let moved = split-all (mark_nodes m) (all_mark_nodes ms) all in
      (mark-renumbered count (p + 1) ambition ss m k first number split.0 moved.0 h.0, moved-marks count (p + 1) later ms ks others split.1 moved.1 h.1)
  moved-marks count p (commands.Upgrade ∷ later) ms ks shape numbers all h = moved-marks count (p + 1) later ms ks shape numbers all h

-- marks stay those of a history where their nodes have the same options and values under their new numbers
pub marks-renumbered : (ts us : List Triple) (count p : ℕ) (later : List Command) (ms ks : List CommitMark) → map without_nodes ks ≡ map without_nodes ms → AreRenumbered ts us (all_mark_nodes ms) (all_mark_nodes ks)
    → AreMarks ts count p later ms → AreMarks us count p later ks
marks-renumbered ts us count p later ms ks shape r h = moved-marks ts us r.by count p later ms ks shape r.is r.each h
