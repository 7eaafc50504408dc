-- What is noted of nodes, and how a node is found by it.
use Rattle.std.specs.Global.{Vec}
use Rattle.std.proofs.Common.{◌≡◌, ℕ, zero, suc, ◌<◌, Bool, true, false, cond, ◌&&◌, ◌||◌, nat_eq, nat_le, List, [], ◌∷◌, map, set, get_or, length, Some, None, is_some, refl, sym, ap, subst, ◌∙◌, arith}
use Rattle.std.specs.List.{AllByRecursion}
use Rattle.std.specs.Map.{lookup, set_value}
use Rattle.std.specs.Option.{option_map_or}
use Rattle.std.specs.Str.{bytes_eq}
use Rattle.std.proofs.lemmas.Bool.{eqb-true}
use Rattle.std.proofs.lemmas.Bool.Decides.{nat_tests}
use Rattle.std.proofs.lemmas.Slice.Eq.{bytes_eq-Decides}
use Rattle.indexmap.specs.IndexMap.{insert_entry}
use Rattle.cov_base.specs.Older.{value_at}
use Rattle.cov_base.specs.Rows.{has_node}
use Rattle.cov_base.proofs.CallerLemmas.{all-append, all-map}
use Rattle.cov_dd.specs.declared.triple.Triple.{Triple}
use Rattle.cov_dd.specs.Diagrams.{value_in}
use Rattle.cov_tree.specs.declared.dated.DatedEntry.{DatedEntry}
use Rattle.cov_tree.specs.declared.entry.Entry.{Entry}
use Rattle.cov_tree.specs.declared.entry.Place.{Place}
use Rattle.cov_tree.specs.declared.noted.NameKey.{NameKey}
use Rattle.cov_tree.specs.Dated.{entry_at, with_no_room}
use Rattle.cov_tree.specs.Installing.{IsChanged, IsPut, AreAllNoted}
use Rattle.cov_tree.specs.Looking.{stands_in}
use Rattle.cov_tree.specs.Noted.{Noted, is_key, noted_at, is_noted, AreNoted, ArePlanNoted, Keeps}
use Rattle.cov_tree.specs.Places.{is_one_place}
use Rattle.cov_tree.proofs.Apart.{one_parts, one_of}

-- whether two keys are one, as they are compared
abbrev pub same_name : NameKey ℕ (Vec ℕ) → NameKey ℕ (Vec ℕ) → Bool
same_name k l = is_one_place k.dir k.name.items l.dir l.name.items

-- what is found once a key has another value
module _ {K V : Type 0} (t : K → Bool) where
  set_found : (es : List (K × V)) (w : V) → is_some (lookup t es) ≡ true → lookup t (set_value t es w) ≡ Some w
  set_found [] w h = absurd (cc)
  set_found (e ∷ es) w h = by (t e.0) refl (set_found es w) h
    where
      by : (b : Bool) → t e.0 ≡ b → (is_some (lookup t es) ≡ true → lookup t (set_value t es w) ≡ Some w) → is_some (cond b (Some e.1) (lookup t es)) ≡ true
          → lookup t (cond b ((e.0, w) ∷ es) (e ∷ set_value t es w)) ≡ Some w
      by true is rest k = ap (λ b. cond b (Some w) (lookup t es)) is
      by false is rest k = ap (λ b. cond b (Some e.1) (lookup t (set_value t es w))) is ∙ rest k

  set_other : (u : K → Bool) → ((k : K) → t k ≡ true → u k ≡ false) → (es : List (K × V)) (w : V) → lookup u (set_value t es w) ≡ lookup u es
  set_other u apart [] w = refl
  set_other u apart (e ∷ es) w = by (t e.0) refl (set_other u apart es w)
    where
      by : (b : Bool) → t e.0 ≡ b → lookup u (set_value t es w) ≡ lookup u es → lookup u (cond b ((e.0, w) ∷ es) (e ∷ set_value t es w)) ≡ cond (u e.0) (Some e.1) (lookup u es)
      by true is rest = ap (λ b. cond b (Some w) (lookup u es)) (apart e.0 is) ∙ sym (ap (λ b. cond b (Some e.1) (lookup u es)) (apart e.0 is))
      by false is rest = ap (cond (u e.0) (Some e.1)) rest

module _ {K V : Type 0} (eq : K → K → Bool) (key : K) where
  put_found : (es : List (K × V)) (w : V) → eq key key ≡ true → lookup (eq key) (insert_entry eq es key w) ≡ Some w
  put_found [] w own = ap (λ b. cond b (Some w) None) own
  put_found (e ∷ es) w own = by (eq key e.0) refl (put_found es w own)
    where
      by : (b : Bool) → eq key e.0 ≡ b → lookup (eq key) (insert_entry eq es key w) ≡ Some w → lookup (eq key) (cond b ((e.0, w) ∷ es) (e ∷ insert_entry eq es key w)) ≡ Some w
      by true is rest = ap (λ b. cond b (Some w) (lookup (eq key) es)) is
      by false is rest = ap (λ b. cond b (Some e.1) (lookup (eq key) (insert_entry eq es key w))) is ∙ rest

  put_other : (u : K → Bool) → ((k : K) → eq key k ≡ true → u k ≡ false) → u key ≡ false → (es : List (K × V)) (w : V) → lookup u (insert_entry eq es key w) ≡ lookup u es
  put_other u apart own [] w = ap (λ b. cond b (Some w) None) own
  put_other u apart own (e ∷ es) w = by (eq key e.0) refl (put_other u apart own es w)
    where
      by : (b : Bool) → eq key e.0 ≡ b → lookup u (insert_entry eq es key w) ≡ lookup u es → lookup u (cond b ((e.0, w) ∷ es) (e ∷ insert_entry eq es key w)) ≡ cond (u e.0) (Some e.1) (lookup u es)
      by true is rest = ap (λ b. cond b (Some w) (lookup u es)) (apart e.0 is) ∙ sym (ap (λ b. cond b (Some e.1) (lookup u es)) (apart e.0 is))
      by false is rest = ap (cond (u e.0) (Some e.1)) rest

-- the key of a name in a directory is that of no other
other_key : (dir : ℕ) (name : List ℕ) (d : ℕ) (n : List ℕ) → is_one_place d n dir name ≡ false → (k : NameKey ℕ (Vec ℕ)) → is_key dir name k ≡ true → is_key d n k ≡ false
other_key dir name d n apart k is = let same = one_parts dir name k.dir k.name.items is in (λ j. is_one_place d n (sym same.0 j) (sym same.1 j)) ∙ apart

-- what was noted is kept where one name's nodes become more
kept_by : (old new : Noted) (dir : ℕ) (name : List ℕ) → ((node : ℕ) → has_node node (noted_at old dir name) ≡ true → has_node node (noted_at new dir name) ≡ true)
    → ((d : ℕ) (n : List ℕ) → is_one_place d n dir name ≡ false → noted_at new d n ≡ noted_at old d n) → Keeps old new
kept_by old new dir name grows others node place h = by (is_one_place place.parent place.name dir name) refl
  where
    by : (b : Bool) → is_one_place place.parent place.name dir name ≡ b → is_noted new node place ≡ true
    by true e =
        let same = one_parts place.parent place.name dir name e in
        (λ j. has_node node (noted_at new (same.0 j) (same.1 j))) ∙ grows node ((λ j. has_node node (noted_at old (sym same.0 j) (sym same.1 j))) ∙ h)
    by false e = ap (has_node node) (others place.parent place.name e) ∙ h

-- a node more under a name
pub written : (old new : Noted) (dir : ℕ) (name : List ℕ) (before after : Vec ℕ) → lookup (is_key dir name) old ≡ Some before → new ≡ set_value (is_key dir name) old after
    → ((node : ℕ) → has_node node before.items ≡ true → has_node node after.items ≡ true) → Keeps old new
written old new dir name before after found is grows =
    kept_by old new dir name
    (λ node h. ap (has_node node) now ∙ grows node (ap (λ o. has_node node (option_map_or (λ (v : Vec ℕ). v.items) o [])) (sym found) ∙ h))
    (λ d n apart. ap (λ o. option_map_or (λ (v : Vec ℕ). v.items) o []) (ap (lookup (is_key d n)) is ∙ set_other (is_key dir name) (is_key d n) (other_key dir name d n apart) old after))
  where
    now : noted_at new dir name ≡ after.items
    now = ap (λ o. option_map_or (λ (v : Vec ℕ). v.items) o []) (ap (lookup (is_key dir name)) is ∙ set_found (is_key dir name) old after (ap is_some found))

pub written_at : (old new : Noted) (dir : ℕ) (name : List ℕ) (before after : Vec ℕ) → lookup (is_key dir name) old ≡ Some before → new ≡ set_value (is_key dir name) old after → noted_at new dir name ≡ after.items
written_at old new dir name before after found is = ap (λ o. option_map_or (λ (v : Vec ℕ). v.items) o []) (ap (lookup (is_key dir name)) is ∙ set_found (is_key dir name) old after (ap is_some found))

-- the first node under a name
pub begun : (old new : Noted) (key : NameKey ℕ (Vec ℕ)) (nodes : Vec ℕ) → noted_at old key.dir key.name.items ≡ [] → new ≡ insert_entry same_name old key nodes → Keeps old new
begun old new key nodes none is =
    kept_by old new key.dir key.name.items
    (λ node h. absurd (let no = ap (has_node node) none in cc))
    (λ d n apart.
    ap (λ o. option_map_or (λ (v : Vec ℕ). v.items) o []) (ap (lookup (is_key d n)) is ∙ put_other same_name key (is_key d n) (other_key key.dir key.name.items d n apart) apart old nodes))

pub begun_at : (old new : Noted) (key : NameKey ℕ (Vec ℕ)) (nodes : Vec ℕ) → new ≡ insert_entry same_name old key nodes → noted_at new key.dir key.name.items ≡ nodes.items
begun_at old new key nodes is =
    ap (λ o. option_map_or (λ (v : Vec ℕ). v.items) o []) (ap (lookup (same_name key)) is ∙ put_found same_name key old nodes (one_of key.dir key.name.items key.dir key.name.items refl refl))

-- what is noted stays so
pub noted_kept : (old new : Noted) → Keeps old new → (node : ℕ) (places : List Place) → AreNoted old node places → AreNoted new node places
noted_kept old new keeps node places h = all-map (λ (p : Place). is_noted old node p ≡ true) (λ (p : Place). is_noted new node p ≡ true) (keeps node) places h

pub plan_kept : (old new : Noted) → Keeps old new → (plan : List Entry) → ArePlanNoted old plan → ArePlanNoted new plan
plan_kept old new keeps plan h = all-map (λ (e : Entry). AreNoted old e.node e.places) (λ (e : Entry). AreNoted new e.node e.places) (λ e k. noted_kept old new keeps e.node e.places k) plan h

pub all_kept : (old new : Noted) → Keeps old new → (es : List DatedEntry) → AreAllNoted old es → AreAllNoted new es
all_kept old new keeps es h =
    all-map (λ (e : DatedEntry). (p : ℕ) → AreNoted old e.node (entry_at p e).places) (λ (e : DatedEntry). (p : ℕ) → AreNoted new e.node (entry_at p e).places)
    (λ e k p. noted_kept old new keeps e.node (entry_at p e).places (k p)) es h

-- and it doesn't speak of room
pub noted_but_room : (all : Noted) (es fs : List DatedEntry) → map with_no_room fs ≡ map with_no_room es → AreAllNoted all es → AreAllNoted all fs
noted_but_room all es fs same h = with_room fs (subst (AreAllNoted all) (sym same) (roomless es h))
  where
    roomless : (xs : List DatedEntry) → AreAllNoted all xs → AreAllNoted all (map with_no_room xs)
    roomless [] k = tt
    roomless (x ∷ xs) k = (k.0, roomless xs k.1)

    with_room : (xs : List DatedEntry) → AreAllNoted all (map with_no_room xs) → AreAllNoted all xs
    with_room [] k = tt
    with_room (x ∷ xs) k = (k.0, with_room xs k.1)

-- a node that has a name in a directory was noted there
pub noted_seen : (all : Noted) (table : List Triple) (c : List Bool) (dir : ℕ) (name : List ℕ) (node : ℕ) (places : List Place) → AreNoted all node places → stands_in table c dir name places ≡ true
    → has_node node (noted_at all dir name) ≡ true
noted_seen all table c dir name node [] noted h = absurd (cc)
noted_seen all table c dir name node (p ∷ places) noted h = by (nat_eq p.parent dir) (bytes_eq p.name name) (value_in table p.vis c) refl refl (noted_seen all table c dir name node places noted.1) h
  where
    by : (q r v : Bool) → nat_eq p.parent dir ≡ q → bytes_eq p.name name ≡ r → (stands_in table c dir name places ≡ true → has_node node (noted_at all dir name) ≡ true) → ((q && (r && v)) || stands_in table c dir name places) ≡ true → has_node node (noted_at all dir name) ≡ true
    by true true true e f rest k =
        let parent : p.parent ≡ dir = eqb-true p.parent dir e in
        let text = (bytes_eq-Decides p.name name).0 f in
        (λ j. has_node node (noted_at all (sym parent j) (sym text j))) ∙ noted.0
    by true true false e f rest k = rest k
    by true false v e f rest k = rest k
    by false r v e f rest k = rest k

pub all_seen : (all : Noted) (table : List Triple) (c : List Bool) (at dir : ℕ) (name : List ℕ) (es : List DatedEntry) → AreAllNoted all es
    → AllByRecursion (λ e. stands_in table c dir name (entry_at at e).places ≡ true → has_node e.node (noted_at all dir name) ≡ true) es
all_seen all table c at dir name es h =
    all-map (λ (e : DatedEntry). (p : ℕ) → AreNoted all e.node (entry_at p e).places)
    (λ (e : DatedEntry). stands_in table c dir name (entry_at at e).places ≡ true → has_node e.node (noted_at all dir name) ≡ true)
    (λ e k. noted_seen all table c dir name e.node (entry_at at e).places (k at)) es h

-- a node that gets other places is noted there
pub set_noted : (at : ℕ) (f : Entry) (new : DatedEntry) (all : Noted) → AreNoted all f.node f.places → (es : List DatedEntry) (i : ℕ) (d : DatedEntry) → i < length es → nat_eq (get_or es i d).node f.node ≡ true
    → IsChanged at f.places (get_or es i d) new → AreAllNoted all es → AreAllNoted all (set es i new)
set_noted at f new all own [] i d here is c h = absurd (omega (arith, here))
set_noted at f new all own (e ∷ es) (suc i) d here is c h = (h.0, set_noted at f new all own es i d (omega (arith, here)) is c h.1)
set_noted at f new all own (e ∷ es) zero d here is c h = (λ p. by p (nat_le at p) refl, h.1)
  where
    number : new.node ≡ f.node
    number = c.node ∙ eqb-true e.node f.node is

    by : (p : ℕ) (b : Bool) → nat_le at p ≡ b → AreNoted all new.node (entry_at p new).places
    by p true it =
        let from = c.from in
        let yes : nat_le new.from p ≡ true = grind (arith, nat_tests, it, from) in
        subst (λ n. AreNoted all n (entry_at p new).places) (sym number)
        (subst (AreNoted all f.node) (sym (ap (λ b. cond b new.places (value_at [] new.older.lists p)) yes ∙ c.places)) own)
    by p false it =
        let low : p < at = grind (arith, nat_tests, it) in
        subst (λ n. AreNoted all n (entry_at p new).places) (sym c.node) (subst (AreNoted all e.node) (sym (c.before p low)) (h.0 p))

-- and so is one that is made
pub put_noted : (at : ℕ) (f : Entry) (all : Noted) (es new : List DatedEntry) → AreNoted all f.node f.places → IsPut at f es new → AreAllNoted all es → AreAllNoted all new
put_noted at f all es new own put h =
    subst (AreAllNoted all) (sym put.is)
    (all-append (λ (e : DatedEntry). (p : ℕ) → AreNoted all e.node (entry_at p e).places) es (put.made ∷ []) h (λ p. by p (nat_le put.made.from p) refl, tt))
  where
    by : (p : ℕ) (b : Bool) → nat_le put.made.from p ≡ b → AreNoted all put.made.node (entry_at p put.made).places
    by p true it =
        subst (AreNoted all put.made.node) (sym (ap (λ b. cond b put.made.places (value_at [] put.made.older.lists p)) it))
        (subst (λ (e : Entry). AreNoted all e.node e.places) (sym put.newest) own)
    by p false it =
        subst (AreNoted all put.made.node)
        (sym (ap (λ b. cond b put.made.places (value_at [] put.made.older.lists p)) it ∙ ap (λ ls. value_at [] ls p) put.older)) tt
