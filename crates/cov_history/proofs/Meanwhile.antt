-- What a commit shows of its files where other commits stand after its base.
use Rattle.std.proofs.Common.{◌≡◌, ℕ, suc, ◌+◌, ◌<◌, ◌≤◌, Bool, true, false, cond, ◌||◌, ◌&&◌, nat_eq, List, [], ◌∷◌, ◌++◌, length, map, take, drop, Option, Some, None, refl, sym, ap, subst, ◌∙◌, arith}
use Rattle.std.specs.List.{filter, list_any, filter_map, cons_option, AllByRecursion}
use Rattle.std.proofs.Math.Seq.{take-length}
use Rattle.std.proofs.lemmas.Bool.{or_parts, or_right}
use Rattle.std.proofs.lemmas.Bool.Decides.{nat_tests}
use Rattle.cov_base.specs.Addresses.{address_in, with_lines, IsTable, IsLineOf}
use Rattle.cov_base.specs.declared.number.NodeRef.{NodeRef}
use Rattle.cov_base.specs.declared.number.NodeRef.TheVariants as nodes
use Rattle.cov_base.proofs.CallerLemmas.{all-map, all-both, all-filter, inside, address_in-with_lines, length-with_lines}
use Rattle.cov_expr.specs.Formula.{Formula, value, reach}
use Rattle.cov_edit.specs.declared.edit.Edit.{Edit}
use Rattle.cov_edit.specs.declared.edit.Edit.TheVariants as edits
use Rattle.cov_edit.specs.declared.command.Command.{Command}
use Rattle.cov_edit.specs.declared.command.Command.TheVariants as commands
use Rattle.cov_edit.specs.History.{option_count, is_valid_in}
use Rattle.cov_edit.specs.Numbering.{Numbers, anchors_of, numbers_after, numbers_of}
use Rattle.cov_edit.specs.Sides.{unsided, condition, conditions, reach_within}
use Rattle.cov_edit.specs.declared.sided.Sided.{Sided}
use Rattle.cov_edit.specs.Touched.{old_node, touched_by, has_number, is_number, are_same, touches, touch}
use Rattle.cov_edit.specs.Variant.{Line, lines_of}
use Rattle.cov_edit.specs.Replay.{replay}
use Rattle.cov_edit.proofs.CallerLemmas.{anchors-same_count, conditions-low, replay-commit, all-apply, touched-rising}
use Rattle.cov_rules.proofs.CallerLemmas.{fails_on_each, value_by_first_options}
use Rattle.cov_view.specs.References.{is_known_node}
use Rattle.cov_view.specs.Paths.{kind_of}
use Rattle.cov_history.specs.BadChoices.{unsound_refusal}
use Rattle.cov_history.specs.Kept.{Kept, seen_at, is_seen, the_item, items_seen, held_by}
use Rattle.cov_history.specs.Laws.{text_of}
use Rattle.cov_history.specs.Overtaking.{share_choice, meet, overtakes, overtaken_from, overtaken}
use Rattle.cov_history.specs.Reach.{AreReached, IsHeldInReach}
use Rattle.cov_history.specs.Sessions.{Session, edits_of, IsGood, seen, commit_of}
use Rattle.cov_history.specs.Verdict.{IsLegal, verdict, when_full, size_refusals, has_no_edits, as_overtaken}
use Rattle.cov_history.specs.declared.refusal.Refusal.{Refusal}
use Rattle.cov_history.specs.declared.refusal.Refusal.TheVariants as refusals
use Rattle.cov_view.specs.Refusals.{when}
use Rattle.cov_view.proofs.CallerLemmas.{none-first, none-behind}
use Rattle.cov_history.proofs.Alike.{AreKnown, accepted-known, IsInTable, line_renumbered, anchors-renumbered, IsAlike, edits-alike}
use Rattle.cov_history.proofs.Inserts.{is_table-of}
use Rattle.cov_history.proofs.Naming.{base-nodes}
use Rattle.cov_history.proofs.Older.{legal-take}
use Rattle.cov_history.proofs.Reaching.{seen-reached, legal-reached}
use Rattle.cov_history.proofs.Renumbering.{renumbered, address_renumbered, renumbered-low, table-start, table-lines, table-grows}
use Rattle.cov_history.proofs.Replays.{joined, replay-seen}
use Rattle.cov_history.proofs.Sessions.{good-passes, sides-true}
use Rattle.cov_history.proofs.Shown.{replay-stands}
use Rattle.cov_history.proofs.Touching.{IsSameAt, kind_by, AreLeft, LeavesOn, replay-left}

-- only the options that a history declares count in its replay
module _ (history : List Command) (c : List Bool) where
  abbrev count : ℕ
  count = option_count history

  abbrev p : ℕ
  p = length history

  items-front : {X : Type 0} (ks : List (Kept X)) → AllByRecursion (AreReached history) ks → items_seen c p ks ≡ items_seen (take count c) p ks
  items-front [] h = refl
  items-front (k ∷ ks) h = at (is_seen c p k) (is_seen (take count c) p k) same (items-front ks h.1)
    where
      low : reach (seen_at k.changes p) ≤ count
      low = subst (λ hs. reach (seen_at k.changes p) ≤ option_count hs) (take-length history) (seen-reached history p k.changes h.0)

      same : is_seen c p k ≡ is_seen (take count c) p k
      same = sym (value_by_first_options count (seen_at k.changes p) c low)

      at : (a b : Bool) → a ≡ b → items_seen c p ks ≡ items_seen (take count c) p ks
          → map the_item (cond a (k ∷ filter (is_seen c p) ks) (filter (is_seen c p) ks)) ≡ map the_item (cond b (k ∷ filter (is_seen (take count c) p) ks) (filter (is_seen (take count c) p) ks))
      at true true e rest = ap (λ l. k.item ∷ l) rest
      at true false e rest = absurd (cc)
      at false true e rest = absurd (cc)
      at false false e rest = rest

  pub replay-front : IsLegal history → replay c history ≡ replay (take count c) history
  replay-front legal =
      let reached : IsHeldInReach history (held_by history) = legal-reached history legal in
      sym (replay-seen c p history ∙ ap (replay c) (take-length history))
      ∙ joined (items-front (held_by history).rows reached.of_rows) (items-front (held_by history).lines reached.of_lines)
      ∙ replay-seen (take count c) p history ∙ ap (replay (take count c)) (take-length history)

-- edits that touch a node touch a common one
common-node : (node : ℕ) (o p : Option ℕ) → is_number node o ≡ true → is_number node p ≡ true → are_same o p ≡ true
common-node node None p h k = absurd (cc)
common-node node (Some x) None h k = absurd (cc)
common-node node (Some x) (Some y) h k = grind (arith, nat_tests, h, k)

-- whether one of the edits touches a node
any-touches : (node : ℕ) (ss : List Sided) → has_number node (filter_map touched_by (unsided ss)) ≡ list_any (λ s. touches node s.edit) ss
any-touches node [] = refl
any-touches node (s ∷ ss) = at (touched_by s.edit) ∙ ap (λ b. touches node s.edit || b) (any-touches node ss)
  where
    at : (o : Option ℕ) → has_number node (cons_option o (filter_map touched_by (unsided ss))) ≡ (is_number node o || has_number node (filter_map touched_by (unsided ss)))
    at None = refl
    at (Some x) = refl

-- a commit that isn't overtaken shares its nodes with no later commit's edit on a valid choice on which its own edits apply
module _ (history : List Command) (ambition : Formula ℕ) (ss : List Sided) (c : List Bool) (node : ℕ)
    (whole : length c ≡ option_count history) (valid : is_valid_in history c ≡ true) (inside : AllByRecursion (λ w. value w c ≡ true) (conditions ambition ss))
    (own : touch node (unsided ss) ≡ true) where
  both-share : (a b : Formula ℕ) → value a c ≡ true → value b c ≡ true → share_choice history a b ≡ true
  both-share a b f g = at (share_choice history a b) refl
    where
      at : (t : Bool) → share_choice history a b ≡ t → t ≡ true
      at true e = refl
      at false e =
          let none = fails_on_each (option_count history) (λ d. is_valid_in history d && (value a d && value b d)) e c whole in
          absurd (let all : (is_valid_in history c && (value a c && value b c)) ≡ true = rw (valid, f, g) refl in cc)

  -- an edit that touches the node and applies meets one of these edits
  meets-one : (other : Formula ℕ) (e : Sided) (fs : List Sided) → value (condition other e) c ≡ true → touches node e.edit ≡ true → AllByRecursion (λ w. value w c ≡ true) (conditions ambition fs)
      → list_any (λ f. touches node f.edit) fs ≡ true → list_any (meet history other e ambition) fs ≡ true
  meets-one other e [] applies it all h = absurd (cc)
  meets-one other e (f ∷ fs) applies it all h = at (touches node f.edit) refl h (meets-one other e fs applies it all.1)
    where
      at : (b : Bool) → touches node f.edit ≡ b → (b || list_any (λ g. touches node g.edit) fs) ≡ true → (list_any (λ g. touches node g.edit) fs ≡ true → list_any (meet history other e ambition) fs ≡ true)
          → (meet history other e ambition f || list_any (meet history other e ambition) fs) ≡ true
      at true k j rest =
          ap (λ b. b || list_any (meet history other e ambition) fs)
          (λ i. common-node node (touched_by e.edit) (touched_by f.edit) it k i && both-share (condition other e) (condition ambition f) applies all.0 i)
      at false k j rest = or_right (meet history other e ambition f) (list_any (meet history other e ambition) fs) (rest j)

  none-touch : (other : Formula ℕ) (others : List Sided) → list_any (λ e. list_any (meet history other e ambition) ss) others ≡ false → AreLeft node c other others
  none-touch other [] h = tt
  none-touch other (e ∷ others) h =
      let parts = or_parts (list_any (meet history other e ambition) ss) (list_any (λ f. list_any (meet history other f ambition) ss) others) h in
      (λ applies. at applies parts.0 (touches node e.edit) refl, none-touch other others parts.1)
    where
      some : list_any (λ f. touches node f.edit) ss ≡ true
      some = sym (any-touches node ss) ∙ sym ((touched-rising (unsided ss)).1 node) ∙ own

      at : value (condition other e) c ≡ true → list_any (meet history other e ambition) ss ≡ false → (b : Bool) → touches node e.edit ≡ b → b ≡ false
      at applies none false it = refl
      at applies none true it = absurd (let met = meets-one other e ss applies it inside some in cc)

  left-one : (k : Command) → overtakes history ambition ss k ≡ false → LeavesOn node c k
  left-one (commands.Option name) h = tt
  left-one (commands.Constraint expr) h = tt
  left-one (commands.Prefer expr) h = tt
  left-one (commands.Default option on) h = tt
  left-one (commands.Commit base choice other others) h = none-touch other others h
  left-one commands.Upgrade h = tt

  left-all : (p : ℕ) (later : List Command) → overtaken_from history ambition ss p later ≡ None → AllByRecursion (LeavesOn node c) later
  left-all p [] h = tt
  left-all p (k ∷ later) h = at (overtakes history ambition ss k) refl h (left-all (p + 1) later)
    where
      at : (b : Bool) → overtakes history ambition ss k ≡ b → cond b (Some (p + 1)) (overtaken_from history ambition ss (p + 1) later) ≡ None
          → (overtaken_from history ambition ss (p + 1) later ≡ None → AllByRecursion (LeavesOn node c) later) → AllByRecursion (LeavesOn node c) (k ∷ later)
      at true e j rest = absurd (cc)
      at false e j rest = (left-one k e, rest j)

-- an accepted commit isn't overtaken
no-position : (o : Option ℕ) → as_overtaken o ≡ None → o ≡ None
no-position None h = refl
no-position (Some p) h = absurd (cc)

not-overtaken : (history : List Command) (s : Session) → IsGood history s → verdict history (commit_of s) ≡ None → overtaken history s.base s.ambition s.edits ≡ None
not-overtaken history s good accepted =
    no-position (overtaken history s.base s.ambition s.edits)
    (none-first late (unsound ∷ [])
    (none-behind (when_full history ∷ (size_refusals history (edits_of s) ++ when (has_no_edits s.edits) refusals.Empty ∷ [])) (late ∷ unsound ∷ [])
    (sym (good-passes history s good) ∙ accepted))).0
  where
    late : Option Refusal
    late = as_overtaken (overtaken history s.base s.ambition s.edits)

    unsound : Option Refusal
    unsound = unsound_refusal history s.ambition (commit_of s)

-- a touched node of known edits is an old one
named-low : (n node : ℕ) (file : NodeRef) (es : List Edit) → is_known_node n file ≡ true → has_number node (cons_option (old_node file) (filter_map touched_by es)) ≡ true
    → (has_number node (filter_map touched_by es) ≡ true → node ≤ n) → node ≤ n
named-low n node (nodes.Old y) es k j rest = at (nat_eq y node) refl j
  where
    at : (b : Bool) → nat_eq y node ≡ b → (b || has_number node (filter_map touched_by es)) ≡ true → node ≤ n
    at true e i = let is : y ≡ node = grind (arith, nat_tests, e) in let low : y ≤ n = grind (arith, nat_tests, k) in omega (arith, low, is)
    at false e i = rest i
named-low n node (nodes.New i) es k j rest = rest j

touched-low : (n m node : ℕ) (es : List Edit) → AreKnown n m es → has_number node (filter_map touched_by es) ≡ true → node ≤ n
touched-low n m node [] known h = absurd (cc)
touched-low n m node (edits.New kind parent name ∷ es) known h = touched-low n m node es known.1 h
touched-low n m node (edits.Insert file after text ∷ es) known h = named-low n node file es known.0.0 h (touched-low n m node es known.1)
touched-low n m node (edits.Delete file which ∷ es) known h = named-low n node file es known.0.0 h (touched-low n m node es known.1)
touched-low n m node (edits.Rename which name ∷ es) known h = named-low n node which es known.0 h (touched-low n m node es known.1)
touched-low n m node (edits.Move which parent ∷ es) known h = named-low n node which es known.0 h (touched-low n m node es known.1)
touched-low n m node (edits.Remove which ∷ es) known h = named-low n node which es known.0 h (touched-low n m node es known.1)

-- the lines of a replay are of the table with more lines
pub replay-in_table : (c : List Bool) (history : List Command) (es : List Edit) → IsInTable (numbers_after (numbers_of history) es).addresses (length (numbers_of history).addresses) (replay c history)
replay-in_table c history es =
    let t : List (List ℕ) = (numbers_of history).addresses in
    let stands = replay-stands c history in
    record {
      in_order = stands.0;
      numbered_lines = all-map (λ l. IsLineOf t (length t) l.address) (λ l. IsLineOf (numbers_after (numbers_of history) es).addresses (length t) l.address)
          (λ l line. (line.0, line.1, line.2 ∙ sym (address_in-with_lines t (anchors_of (length t) es) (suc line.0) (let less : line.0 < length t = line.1 in omega (arith, less)))))
          (replay c history).lines stands.1;
    }

module _ (n m : ℕ) where
  low-address : (a : List ℕ) → AllByRecursion (λ k. k < suc n) a → address_renumbered n m a ≡ a
  low-address [] h = refl
  low-address (k ∷ ks) h = let low = h.0 in λ i. renumbered-low n m k (omega (arith, low)) i ∷ low-address ks h.1 i

  low-lines : (t : List (List ℕ)) → IsTable t → n ≤ length t → (ls : List Line) → AllByRecursion (λ l. IsLineOf t n l.address) ls → map (line_renumbered n m) ls ≡ ls
  low-lines t table below [] h = refl
  low-lines t table below (l ∷ ls) h = λ i. record { file = l.file; address = low-address l.address (inside t n l.address table below h.0).1 i; text = l.text } ∷ low-lines t table below ls h.1 i

texts-renumbered : (n m : ℕ) (ls : List Line) → map text_of (map (line_renumbered n m) ls) ≡ map text_of ls
texts-renumbered n m [] = refl
texts-renumbered n m (l ∷ ls) = ap (λ ts. l.text ∷ ts) (texts-renumbered n m ls)

module _ (history : List Command) (s : Session) (c : List Bool) (file : ℕ) (legal : IsLegal history) (good : IsGood history s)
    (accepted : verdict history (commit_of s) ≡ None) (whole : length c ≡ option_count history) (valid : is_valid_in history c ≡ true)
    (front : take (length s.choice) c ≡ s.choice) (own : touch file (edits_of s) ≡ true) where
  abbrev es : List Edit
  es = edits_of s

  abbrev before : List Command
  before = take s.base history

  abbrev nb : Numbers
  nb = numbers_of before

  abbrev nh : Numbers
  nh = numbers_of history

  abbrev n : ℕ
  n = length nb.addresses

  abbrev m : ℕ
  m = length nh.addresses

  abbrev tb : List (List ℕ)
  tb = (numbers_after nb es).addresses

  abbrev th : List (List ℕ)
  th = (numbers_after nh es).addresses

  more : n ≤ m
  more = (table-grows s.base history).0

  known : AreKnown nb.nodes n es
  known = accepted-known nb tb nb.nodes n 0 (replay s.choice before) es good.accepted

  alone : overtaken history s.base s.ambition s.edits ≡ None
  alone = not-overtaken history s good accepted

  old : file ≤ nb.nodes
  old = touched-low nb.nodes n file es known (sym ((touched-rising es).1 file) ∙ own)

  -- all its edits apply on the choice
  inside-sides : AllByRecursion (λ w. value w c ≡ true) (conditions s.ambition s.edits)
  inside-sides =
      let low : reach_within s.ambition s.edits ≤ length s.choice = subst (λ k. reach_within s.ambition s.edits ≤ k) (sym good.of_all_options) good.in_reach in
      all-both (λ w. reach w ≤ length s.choice) (λ w. value w s.choice ≡ true) (λ w. value w c ≡ true)
      (λ w reached true_there. sym (value_by_first_options (length s.choice) w c reached) ∙ ap (value w) front ∙ true_there)
      (conditions s.ambition s.edits) (conditions-low (length s.choice) s.ambition s.edits low) (sides-true s.choice s.ambition s.edits good.in_ambition good.in_sides)

  -- at the base, the choices show the same
  at-base : replay c before ≡ replay s.choice before
  at-base =
      replay-front before c (legal-take s.base [] history legal)
      ∙ ap (λ k. replay (take k c) before) (sym good.of_all_options) ∙ ap (λ d. replay d before) front

  -- and the file is as it was at the base
  since-base : IsSameAt file (replay s.choice before) (replay c history)
  since-base =
      subst (λ v. IsSameAt file v (replay c history)) at-base
      (replay-left file c s.base history old (left-all history s.ambition s.edits c file whole valid inside-sides own s.base (drop s.base history) alone))

  same : (y : ℕ) → address_in th (renumbered n m y) ≡ address_renumbered n m (address_in tb y)
  same =
      let start = table-start nb.addresses nh.addresses (is_table-of before []) more (table-grows s.base history).1 in
      subst (λ anchors. (y : ℕ) → address_in (with_lines nh.addresses anchors) (renumbered n m y) ≡ address_renumbered n m (address_in tb y))
      (sym (anchors-renumbered n m more nb.nodes es known))
      (table-lines n m more nb.addresses nh.addresses (anchors_of n es) start).addresses

  start-alike : IsAlike nb nh more tb th (is_table-of before es) (is_table-of history es) same file old (base-nodes s.base history) (replay s.choice before) (replay c history)
  start-alike = record {
    kind = ap (kind_by file) since-base.row;
    lines = since-base.lines
        ∙ sym (low-lines n m nb.addresses (is_table-of before []) (omega arith) (lines_of (replay s.choice before) file)
        (all-filter (λ l. IsLineOf nb.addresses n l.address) (λ l. nat_eq l.file file) (replay s.choice before).lines (replay-stands s.choice before).1));
  }

  end-alike : IsAlike nb nh more tb th (is_table-of before es) (is_table-of history es) same file old (base-nodes s.base history)
      (seen s history) (replay c (history ++ commit_of s ∷ []))
  end-alike =
      subst (IsAlike nb nh more tb th (is_table-of before es) (is_table-of history es) same file old (base-nodes s.base history) (seen s history))
      (sym (replay-commit c history s.base s.choice s.ambition s.edits
      ∙ all-apply c (replay c history) nh s.ambition s.edits inside-sides))
      (edits-alike nb nh more tb th (is_table-of before es) (is_table-of history es) same file old (base-nodes s.base history)
      nb.nodes nh.nodes n m 0 (replay s.choice before) (replay c history) es (omega arith) (omega arith) (omega arith) (omega arith)
      (let count = length-with_lines nb.addresses (anchors_of n es) in omega (arith, count))
      (let count = length-with_lines nh.addresses (anchors_of m es) in let few = anchors-same_count m n es in omega (arith, count, few))
      known (replay-in_table s.choice before es) (replay-in_table c history es) start-alike)

  -- the commit shows of a file that it touches what its session saw
  pub commit-shows_file : (kind_of (replay c (history ++ commit_of s ∷ [])).rows file ≡ kind_of (seen s history).rows file)
      × (map text_of (lines_of (replay c (history ++ commit_of s ∷ [])) file) ≡ map text_of (lines_of (seen s history) file))
  commit-shows_file = (end-alike.kind, ap (map text_of) end-alike.lines ∙ texts-renumbered n m (lines_of (seen s history) file))
