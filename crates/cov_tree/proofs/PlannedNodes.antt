-- The nodes with a plan, one by one, are those with the nodes of the plan put in one after another.
use Rattle.std.proofs.Common.{◌≡◌, ℕ, zero, suc, ◌<◌, Bool, true, false, cond, ◌||◌, not, nat_eq, List, [], ◌∷◌, ◌++◌, map, get_or, length, Option, None, Some, position, append-nil, append_assoc, refl, sym, ap, subst, ◌∙◌, arith}
use Rattle.std.specs.Option.{is_some}
use Rattle.std.proofs.lemmas.Bool.{or_parts, eqb-true}
use Rattle.std.proofs.lemmas.List.{map-append}
use Rattle.std.proofs.lemmas.List.Quantifiers.{position-Some}
use Rattle.cov_base.specs.Rows.{has_node, AreDistinct}
use Rattle.cov_base.proofs.CallerLemmas.{nat_eq-sym}
use Rattle.cov_tree.specs.declared.entry.Place.{Place}
use Rattle.cov_tree.specs.declared.entry.Entry.{Entry}
use Rattle.cov_tree.specs.declared.dated.DatedEntry.{DatedEntry}
use Rattle.cov_tree.specs.Entries.{nodes_of}
use Rattle.cov_tree.specs.Installing.{IsPlaceOf}
use Rattle.cov_tree.specs.Dated.{newest_entry, with_places_of, with_entry, planned}
use Rattle.cov_tree.specs.Standing.{places_with, entry_with, made_beside}
use Rattle.cov_tree.proofs.Planned.{nodes_kept, with_new}
use Rattle.cov_tree.proofs.Plans.{distinct_more}

-- a node that a plan doesn't have keeps its places
pub own_places : (plan : List Entry) (node : ℕ) (own : List Place) → has_node node (nodes_of plan) ≡ false → places_with plan node own ≡ own
own_places [] node own h = refl
own_places (f ∷ plan) node own h =
    let parts = or_parts (nat_eq f.node node) (has_node node (nodes_of plan)) h in
    ap (λ b. cond b f.places (places_with plan node own)) parts.0 ∙ own_places plan node own parts.1

-- a node that it has gets those that the plan has
first_places : (plan : List Entry) (node : ℕ) (own : List Place) (i : ℕ) (d : Entry) → i < length plan → nat_eq (get_or plan i d).node node ≡ true
    → ((k : ℕ) → k < i → nat_eq (get_or plan k d).node node ≡ false) → places_with plan node own ≡ (get_or plan i d).places
first_places [] node own i d here is first = absurd (omega (arith, here))
first_places (f ∷ plan) node own zero d here is first = ap (λ b. cond b f.places (places_with plan node own)) is
first_places (f ∷ plan) node own (suc i) d here is first =
    ap (λ b. cond b f.places (places_with plan node own)) (first zero (omega arith))
    ∙ first_places plan node own i d (omega (arith, here)) is (λ k h. first (suc k) (omega (arith, h)))

pub found_places : (plan : List Entry) (node : ℕ) (own : List Place) (i : ℕ) (f : Entry) → position (λ e. nat_eq e.node node) plan ≡ Some i → f ≡ get_or plan i f → places_with plan node own ≡ f.places
found_places plan node own i f is at =
    let found = position-Some (λ (e : Entry). nat_eq e.node node) plan i f is in
    first_places plan node own i f found.0 found.1 found.2 ∙ ap (λ (e : Entry). e.places) (sym at)

none_changed : (es : List Entry) → map (entry_with []) es ≡ es
none_changed [] = refl
none_changed (e ∷ es) = ap (λ xs. e ∷ xs) (none_changed es)

-- a node that isn't there changes none
unmet : (f : Entry) (plan es : List Entry) → has_node f.node (nodes_of es) ≡ false → map (entry_with plan) es ≡ map (entry_with (f ∷ plan)) es
unmet f plan [] h = refl
unmet f plan (e ∷ es) h = λ j. here j ∷ unmet f plan es parts.1 j
  where
    parts : (nat_eq e.node f.node ≡ false) × (has_node f.node (nodes_of es) ≡ false)
    parts = or_parts (nat_eq e.node f.node) (has_node f.node (nodes_of es)) h

    here : entry_with plan e ≡ entry_with (f ∷ plan) e
    here = ap (λ b. record { node = e.node; kind = e.kind; places = cond b f.places (places_with plan e.node e.places) }) (sym (nat_eq-sym f.node e.node ∙ parts.0))

-- one that is there gets its places
met : (f : Entry) (plan es : List Entry) → has_node f.node (nodes_of plan) ≡ false → AreDistinct (nodes_of es) → has_node f.node (nodes_of es) ≡ true
    → map (entry_with plan) (with_entry f es) ≡ map (entry_with (f ∷ plan)) es
met f plan [] fresh distinct h = absurd (cc)
met f plan (e ∷ es) fresh distinct h = by (nat_eq e.node f.node) refl h (met f plan es fresh distinct.1)
  where
    by : (b : Bool) → nat_eq e.node f.node ≡ b → (b || has_node f.node (nodes_of es)) ≡ true → (has_node f.node (nodes_of es) ≡ true → map (entry_with plan) (with_entry f es) ≡ map (entry_with (f ∷ plan)) es)
        → map (entry_with plan) (cond b (with_places_of f e ∷ es) (e ∷ with_entry f es)) ≡ map (entry_with (f ∷ plan)) (e ∷ es)
    by true same k rest =
        let is : e.node ≡ f.node = eqb-true e.node f.node same in
        let given : places_with plan e.node f.places ≡ f.places = own_places plan e.node f.places (ap (λ n. has_node n (nodes_of plan)) is ∙ fresh) in
        let first : f.places ≡ places_with (f ∷ plan) e.node e.places =
        ap (λ b. cond b f.places (places_with plan e.node e.places)) (sym (nat_eq-sym f.node e.node ∙ same)) in
        let others = unmet f plan es (ap (λ n. has_node n (nodes_of es)) (sym is) ∙ distinct.0) in
        (λ j. record { node = e.node; kind = e.kind; places = (given ∙ first) j } ∷ others j)
    by false other k rest =
        let own : places_with plan e.node e.places ≡ places_with (f ∷ plan) e.node e.places =
        ap (λ b. cond b f.places (places_with plan e.node e.places)) (sym (nat_eq-sym f.node e.node ∙ other)) in
        let others = rest k in
        (λ j. record { node = e.node; kind = e.kind; places = own j } ∷ others j)

has_more : (m n : ℕ) (ns : List ℕ) → nat_eq n m ≡ false → has_node m (ns ++ n ∷ []) ≡ has_node m ns
has_more m n [] h = ap (λ b. b || false) h
has_more m n (k ∷ ns) h = ap (λ b. nat_eq k m || b) (has_more m n ns h)

-- what a plan makes beside these, and beside a node more that it doesn't have
beside_more : (n : ℕ) (ns : List ℕ) (plan : List Entry) → has_node n (nodes_of plan) ≡ false → made_beside (ns ++ n ∷ []) plan ≡ made_beside ns plan
beside_more n ns [] h = refl
beside_more n ns (g ∷ plan) h =
    let parts = or_parts (nat_eq g.node n) (has_node n (nodes_of plan)) h in
    ap (λ b. cond (not b) (g ∷ made_beside (ns ++ n ∷ []) plan) (made_beside (ns ++ n ∷ []) plan)) (has_more g.node n ns (nat_eq-sym n g.node ∙ parts.0))
    ∙ ap (λ xs. cond (not (has_node g.node ns)) (g ∷ xs) xs) (beside_more n ns plan parts.1)

-- a node is there where it has a place
there_at : (node : ℕ) (es : List DatedEntry) (i : ℕ) → i < length es → ((d : DatedEntry) → nat_eq (get_or es i d).node node ≡ true) → has_node node (nodes_of (map newest_entry es)) ≡ true
there_at node [] i here is = absurd (omega (arith, here))
there_at node (e ∷ es) zero here is = ap (λ b. b || has_node node (nodes_of (map newest_entry es))) (is e)
there_at node (e ∷ es) (suc i) here is = ap (λ b. nat_eq e.node node || b) (there_at node es i (omega (arith, here)) is) ∙ either (nat_eq e.node node)
  where
    either : (b : Bool) → (b || true) ≡ true
    either true = refl
    either false = refl

pub is_there : (node : ℕ) (es : List DatedEntry) (place : Option ℕ) → IsPlaceOf node es place → is_some place ≡ has_node node (nodes_of (map newest_entry es))
is_there node es None h = sym h
is_there node es (Some i) h = sym (there_at node es i h.0 h.1)

-- the nodes with a plan: each with the plan's places where the plan has it, and behind them those that the plan makes
pub planned_is : (plan es : List Entry) → AreDistinct (nodes_of plan) → AreDistinct (nodes_of es) → planned plan es ≡ map (entry_with plan) es ++ made_beside (nodes_of es) plan
planned_is [] es g h = sym (append-nil (map (entry_with []) es) ∙ none_changed es)
planned_is (f ∷ plan) es g h = by (has_node f.node (nodes_of es)) refl (planned_is plan (with_entry f es) g.1)
  where
    by : (b : Bool) → has_node f.node (nodes_of es) ≡ b
        → (AreDistinct (nodes_of (with_entry f es)) → planned plan (with_entry f es) ≡ map (entry_with plan) (with_entry f es) ++ made_beside (nodes_of (with_entry f es)) plan)
        → planned plan (with_entry f es) ≡ map (entry_with (f ∷ plan)) es ++ made_beside (nodes_of es) (f ∷ plan)
    by true there after =
        let same = nodes_kept f es there in
        after (subst AreDistinct (sym same) h)
        ∙ (λ j. met f plan es g.0 h there j ++ made_beside (same j) plan)
        ∙ ap (λ b. map (entry_with (f ∷ plan)) es ++ cond (not b) (f ∷ made_beside (nodes_of es) plan) (made_beside (nodes_of es) plan)) (sym there)
    by false fresh after =
        let same = with_new f es fresh in
        let nodes : nodes_of (with_entry f es) ≡ nodes_of es ++ f.node ∷ [] = ap nodes_of same ∙ map-append (λ (e : Entry). e.node) es (f ∷ []) in
        let own : entry_with plan f ≡ f = (λ j. record { node = f.node; kind = f.kind; places = own_places plan f.node f.places g.0 j }) in
        after (subst AreDistinct (sym nodes) (distinct_more (nodes_of es) f.node h fresh))
        ∙ (λ j. map (entry_with plan) (same j) ++ made_beside (nodes j) plan)
        ∙ (λ j. map-append (entry_with plan) es (f ∷ []) j ++ beside_more f.node (nodes_of es) plan g.0 j)
        ∙ (λ j. (unmet f plan es fresh j ++ own j ∷ []) ++ made_beside (nodes_of es) plan)
        ∙ append_assoc (map (entry_with (f ∷ plan)) es) (f ∷ []) (made_beside (nodes_of es) plan)
        ∙ ap (λ b. map (entry_with (f ∷ plan)) es ++ cond (not b) (f ∷ made_beside (nodes_of es) plan) (made_beside (nodes_of es) plan)) (sym fresh)
