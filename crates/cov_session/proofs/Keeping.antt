-- Sessions under their keys.
use Rattle.std.proofs.Common.{◌≡◌, ◌≢◌, ◌∙◌, refl, sym, ap, ℕ, suc, Bool, true, false, cond, not, List, [], ◌∷◌, ◌++◌, length, map, filter, Option, Some, None, is_some}
use Rattle.std.specs.Global.{Vec}
use Rattle.std.specs.List.{AllByRecursion, IsDistinct, cons_option, find}
use Rattle.std.specs.Map.{keys_of, lookup, remove_entry}
use Rattle.std.specs.Str.{bytes_eq}
use Rattle.std.proofs.lemmas.List.Elements.{filter_map-append}
use Rattle.std.proofs.lemmas.Slice.Eq.{bytes_eq-Decides}
use Rattle.slab.specs.Slab.{Slab, get, Updates}
use Rattle.cov_base.proofs.CallerLemmas.{all-append}
use Rattle.cov_session.specs.Kept.{Keys, Leads, same_name, kept}
use Rattle.cov_session.specs.Open.{SessionValue}

-- whether a key is that of a name
abbrev pub is_of : List ℕ → Vec ℕ → Bool
is_of name key = bytes_eq name key.items

-- whether a session has a name
abbrev pub has_name : List ℕ → SessionValue → Bool
has_name name s = bytes_eq s.name name

-- the session under a key, if there is a key
abbrev pub led : Slab SessionValue → Option ℕ → Option SessionValue
led slab None = None
led slab (Some key) = get slab key

eq-sym : (a b : List ℕ) → bytes_eq a b ≡ bytes_eq b a
eq-sym a b = at (bytes_eq a b) (bytes_eq b a) refl refl
  where
    at : (x y : Bool) → bytes_eq a b ≡ x → bytes_eq b a ≡ y → x ≡ y
    at true true e f = refl
    at false false e f = refl
    at true false e f = absurd (let is = sym ((bytes_eq-Decides a b).0 e) in let so = (bytes_eq-Decides b a).1 is in cc)
    at false true e f = absurd (let is = sym ((bytes_eq-Decides b a).0 f) in let so = (bytes_eq-Decides a b).1 is in cc)

-- a session has a name where its key is that of the name
led-name : (slab : Slab SessionValue) (name : List ℕ) (e : Vec ℕ × ℕ) (l : Leads slab e) → has_name name l.session ≡ is_of name e.0
led-name slab name e l = eq-sym l.session.name name ∙ ap (bytes_eq name) l.name

-- the session of a name is the one to which the name leads
pub find-kept : (slab : Slab SessionValue) (name : List ℕ) (keys : Keys) → AllByRecursion (Leads slab) keys → find (has_name name) (kept keys slab) ≡ led slab (lookup (is_of name) keys)
find-kept slab name [] h = refl
find-kept slab name (e ∷ es) h =
    ap (λ o. find (has_name name) (cons_option o (kept es slab))) h.0.there
    ∙ at (has_name name h.0.session) (is_of name e.0) (led-name slab name e h.0) (find-kept slab name es h.1)
  where
    at : (a b : Bool) → a ≡ b → find (has_name name) (kept es slab) ≡ led slab (lookup (is_of name) es)
        → cond a (Some h.0.session) (find (has_name name) (kept es slab)) ≡ led slab (cond b (Some e.1) (lookup (is_of name) es))
    at true true same rest = sym h.0.there
    at false false same rest = rest
    at true false same rest = absurd (cc)
    at false true same rest = absurd (cc)

-- a key that is found has its session
pub led-some : (slab : Slab SessionValue) (name : List ℕ) (keys : Keys) → AllByRecursion (Leads slab) keys → is_some (led slab (lookup (is_of name) keys)) ≡ is_some (lookup (is_of name) keys)
led-some slab name [] h = refl
led-some slab name (e ∷ es) h = at (is_of name e.0) (led-some slab name es h.1)
  where
    at : (b : Bool) → is_some (led slab (lookup (is_of name) es)) ≡ is_some (lookup (is_of name) es)
        → is_some (led slab (cond b (Some e.1) (lookup (is_of name) es))) ≡ is_some (cond b (Some e.1) (lookup (is_of name) es))
    at true rest = ap is_some h.0.there
    at false rest = rest

-- there are as many sessions as names
pub length-kept : (slab : Slab SessionValue) (keys : Keys) → AllByRecursion (Leads slab) keys → length (kept keys slab) ≡ length keys
length-kept slab [] h = refl
length-kept slab (e ∷ es) h = ap (λ o. length (cons_option o (kept es slab))) h.0.there ∙ ap suc (length-kept slab es h.1)

-- behind a key no other is of its name
none-behind : (name : List ℕ) (x : Vec ℕ) (es : Keys) → name ≡ x.items → AllByRecursion (λ y. same_name x y ≡ false) (keys_of es) → AllByRecursion (λ e. is_of name e.0 ≡ false) es
none-behind name x [] is h = tt
none-behind name x (e ∷ es) is h = (ap (λ n. bytes_eq n e.0.items) is ∙ h.0, none-behind name x es is h.1)

-- the key to which a name leads is the only one of that name
pub only-key : (name : List ℕ) (key : ℕ) (keys : Keys) → IsDistinct same_name (keys_of keys) → lookup (is_of name) keys ≡ Some key → AllByRecursion (λ e. is_of name e.0 ≡ true → e.1 ≡ key) keys
unfolding IsDistinct
only-key name key [] d h = tt
only-key name key (e ∷ es) d h = at (is_of name e.0) refl h (λ k. only-key name key es d.1 k)
  where
    none-so : (fs : Keys) → AllByRecursion (λ f. is_of name f.0 ≡ false) fs → AllByRecursion (λ f. is_of name f.0 ≡ true → f.1 ≡ key) fs
    none-so [] k = tt
    none-so (f ∷ fs) k = (λ t. let no = k.0 in absurd (cc), none-so fs k.1)

    at : (b : Bool) → is_of name e.0 ≡ b → cond b (Some e.1) (lookup (is_of name) es) ≡ Some key
        → (lookup (is_of name) es ≡ Some key → AllByRecursion (λ f. is_of name f.0 ≡ true → f.1 ≡ key) es) → AllByRecursion (λ f. is_of name f.0 ≡ true → f.1 ≡ key) (e ∷ es)
    at true t k rest = (λ _. cc, none-so es (none-behind name e.0 es ((bytes_eq-Decides name e.0.items).0 t) d.0))
    at false t k rest = (λ u. absurd (cc), rest k)

-- where each key has the session that it had, the same are kept
kept-same : (old new : Slab SessionValue) (keys : Keys) → AllByRecursion (λ e. get new e.1 ≡ get old e.1) keys → kept keys new ≡ kept keys old
kept-same old new [] h = refl
kept-same old new (e ∷ es) h = ap (λ o. cons_option o (kept es new)) h.0 ∙ ap (cons_option (get old e.1)) (kept-same old new es h.1)

-- and each name still leads to its session
pub leads-same : (old new : Slab SessionValue) → ((e : Vec ℕ × ℕ) → Leads old e → get new e.1 ≡ get old e.1) → (keys : Keys) → AllByRecursion (Leads old) keys → AllByRecursion (Leads new) keys
leads-same old new same [] h = tt
leads-same old new same (e ∷ es) h = (record { session = h.0.session; there = same e h.0 ∙ h.0.there; name = h.0.name }, leads-same old new same es h.1)

module _ (old new : Slab SessionValue) (key : ℕ) where
  -- a session is put under a new key
  module _ (s : SessionValue) (own : Vec ℕ) (fresh : get old key ≡ None) (updates : Updates old new key (Some s)) where
    stays : (e : Vec ℕ × ℕ) → Leads old e → get new e.1 ≡ get old e.1
    stays e l = updates.others e.1 (λ same. let there = l.there in let has = ap (get old) same in absurd (cc))

    all-stay : (keys : Keys) → AllByRecursion (Leads old) keys → AllByRecursion (λ e. get new e.1 ≡ get old e.1) keys
    all-stay [] h = tt
    all-stay (e ∷ es) h = (stays e h.0, all-stay es h.1)

    -- it is the last of all
    pub kept-added : (keys : Keys) → AllByRecursion (Leads old) keys → kept (keys ++ (own, key) ∷ []) new ≡ kept keys old ++ s ∷ []
    kept-added keys h =
        filter_map-append (λ e. get new e.1) keys ((own, key) ∷ [])
        ∙ ap (λ l. l ++ kept ((own, key) ∷ []) new) (kept-same old new keys (all-stay keys h))
        ∙ ap (λ o. kept keys old ++ cons_option o []) updates.changed

    pub leads-added : s.name ≡ own.items → (keys : Keys) → AllByRecursion (Leads old) keys → AllByRecursion (Leads new) (keys ++ (own, key) ∷ [])
    leads-added is keys h = all-append (Leads new) keys ((own, key) ∷ []) (leads-same old new stays keys h) (record { session = s; there = updates.changed; name = is }, tt)

  -- a key of another name is another key
  away : (s : SessionValue) (name : List ℕ) → get old key ≡ Some s → s.name ≡ name → (e : Vec ℕ × ℕ) → Leads old e → is_of name e.0 ≡ false → e.1 ≢ key
  away s name there is e l differs same =
      let one : l.session ≡ s = let has = ap (get old) same in let two = l.there in cc in
      let so : name ≡ e.0.items = sym is ∙ sym (ap (λ (t : SessionValue). t.name) one) ∙ l.name in
      let yes = (bytes_eq-Decides name e.0.items).1 so in
      absurd (cc)

  -- the session under a key is changed, and keeps its name
  module _ (s t : SessionValue) (there : get old key ≡ Some s) (same : t.name ≡ s.name) (updates : Updates old new key (Some t)) where
    abbrev changed : SessionValue → SessionValue
    changed u = cond (has_name t.name u) t u

    changed-one : (e : Vec ℕ × ℕ) (l : Leads old e) → (is_of t.name e.0 ≡ true → e.1 ≡ key) → get new e.1 ≡ Some (changed l.session)
    changed-one e l only = at (is_of t.name e.0) refl ∙ ap (λ b. Some (cond b t l.session)) (sym (led-name old t.name e l))
      where
        at : (b : Bool) → is_of t.name e.0 ≡ b → get new e.1 ≡ Some (cond b t l.session)
        at true h = ap (get new) (only h) ∙ updates.changed
        at false h = updates.others e.1 (away s t.name there (sym same) e l h) ∙ l.there

    -- it is in its place
    pub kept-changed : (keys : Keys) → AllByRecursion (Leads old) keys → AllByRecursion (λ e. is_of t.name e.0 ≡ true → e.1 ≡ key) keys → kept keys new ≡ map changed (kept keys old)
    kept-changed [] h only = refl
    kept-changed (e ∷ es) h only =
        ap (λ o. cons_option o (kept es new)) (changed-one e h.0 only.0) ∙ ap (λ l. changed h.0.session ∷ l) (kept-changed es h.1 only.1)
        ∙ ap (λ o. map changed (cons_option o (kept es old))) (sym h.0.there)

    pub leads-changed : (keys : Keys) → AllByRecursion (Leads old) keys → AllByRecursion (λ e. is_of t.name e.0 ≡ true → e.1 ≡ key) keys → AllByRecursion (Leads new) keys
    leads-changed [] h only = tt
    leads-changed (e ∷ es) h only = (
      record { session = changed h.0.session; there = changed-one e h.0 only.0; name = at (has_name t.name h.0.session) (led-name old t.name e h.0) },
      leads-changed es h.1 only.1,
    )
      where
        at : (b : Bool) → b ≡ is_of t.name e.0 → (cond b t h.0.session).name ≡ e.0.items
        at true k = (bytes_eq-Decides t.name e.0.items).0 (sym k)
        at false k = h.0.name

  -- the session of a name is taken out from under its key
  module _ (s : SessionValue) (name : List ℕ) (there : get old key ≡ Some s) (is : s.name ≡ name) (updates : Updates old new key None) where
    -- the others are kept
    pub kept-others : (keys : Keys) → AllByRecursion (Leads old) keys → kept (filter (λ e. not (is_of name e.0)) keys) new ≡ filter (λ u. not (has_name name u)) (kept keys old)
    kept-others [] h = refl
    kept-others (e ∷ es) h =
        at (is_of name e.0) refl (kept-others es h.1) ∙ ap (λ b. cond (not b) (h.0.session ∷ others) others) (sym (led-name old name e h.0))
        ∙ ap (λ o. filter (λ u. not (has_name name u)) (cons_option o (kept es old))) (sym h.0.there)
      where
        others : List SessionValue
        others = filter (λ u. not (has_name name u)) (kept es old)

        at : (b : Bool) → is_of name e.0 ≡ b → kept (filter (λ f. not (is_of name f.0)) es) new ≡ others
            → kept (cond (not b) (e ∷ filter (λ f. not (is_of name f.0)) es) (filter (λ f. not (is_of name f.0)) es)) new ≡ cond (not b) (h.0.session ∷ others) others
        at true k rest = rest
        at false k rest =
            ap (λ o. cons_option o (kept (filter (λ f. not (is_of name f.0)) es) new)) (updates.others e.1 (away s name there is e h.0 k) ∙ h.0.there)
            ∙ ap (λ l. h.0.session ∷ l) rest

    pub leads-others : (keys : Keys) → AllByRecursion (Leads old) keys → AllByRecursion (Leads new) (filter (λ e. not (is_of name e.0)) keys)
    leads-others [] h = tt
    leads-others (e ∷ es) h = at (is_of name e.0) refl (leads-others es h.1)
      where
        at : (b : Bool) → is_of name e.0 ≡ b → AllByRecursion (Leads new) (filter (λ f. not (is_of name f.0)) es)
            → AllByRecursion (Leads new) (cond (not b) (e ∷ filter (λ f. not (is_of name f.0)) es) (filter (λ f. not (is_of name f.0)) es))
        at true k rest = rest
        at false k rest = (record { session = h.0.session; there = updates.others e.1 (away s name there is e h.0 k) ∙ h.0.there; name = h.0.name }, rest)

-- where none is of a name, all are others
all-others : (name : List ℕ) (keys : Keys) → AllByRecursion (λ e. is_of name e.0 ≡ false) keys → keys ≡ filter (λ e. not (is_of name e.0)) keys
all-others name [] h = refl
all-others name (e ∷ es) h =
    ap (λ l. e ∷ l) (all-others name es h.1)
    ∙ ap (λ b. cond (not b) (e ∷ filter (λ f. not (is_of name f.0)) es) (filter (λ f. not (is_of name f.0)) es)) (sym h.0)

-- to take out the first key of a name leaves those of other names
pub others-are : (name : List ℕ) (keys : Keys) → IsDistinct same_name (keys_of keys) → remove_entry (is_of name) keys ≡ filter (λ e. not (is_of name e.0)) keys
unfolding IsDistinct
others-are name [] d = refl
others-are name (e ∷ es) d = at (is_of name e.0) refl (others-are name es d.1)
  where
    at : (b : Bool) → is_of name e.0 ≡ b → remove_entry (is_of name) es ≡ filter (λ f. not (is_of name f.0)) es
        → cond b es (e ∷ remove_entry (is_of name) es) ≡ cond (not b) (e ∷ filter (λ f. not (is_of name f.0)) es) (filter (λ f. not (is_of name f.0)) es)
    at true k rest = all-others name es (none-behind name e.0 es ((bytes_eq-Decides name e.0.items).0 k) d.0)
    at false k rest = ap (λ l. e ∷ l) rest
