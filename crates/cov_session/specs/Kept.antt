-- How open sessions are kept: each under a key, to which its name leads.
use Rattle.std.specs.Global.{Vec}
use Rattle.std.specs.Prelude.{◌≡◌, ◌≤◌, ℕ, Bool, List, length, filter_map, Some}
use Rattle.std.specs.List.{AllByRecursion, IsDistinct}
use Rattle.std.specs.Map.{keys_of}
use Rattle.std.specs.Str.{bytes_eq}
use Rattle.slab.specs.Slab.{Slab, get, slab_len}
use Rattle.cov_session.specs.Open.{SessionValue}
use Rattle.cov_session.specs.declared.sessions.TheConstants.{MOST_SESSIONS}

-- whether two names are the same
abbrev pub same_name : Vec ℕ → Vec ℕ → Bool
same_name a b = bytes_eq a.items b.items

-- the key of each name, in the order in which the sessions were opened
abbrev pub Keys : Type 0
Keys = List (Vec ℕ × ℕ)

-- the sessions under the keys of the names, in their order
abbrev pub kept : Keys → Slab SessionValue → List SessionValue
kept keys slab = filter_map (λ e. get slab e.1) keys

-- a name leads to the session that has it
pub record Leads (slab : Slab SessionValue) (e : Vec ℕ × ℕ) : Type 0 where
  pub session : SessionValue
  pub there : get slab e.1 ≡ Some session
  pub name : session.name ≡ e.0.items

-- each name leads to its session, no two are the same, and there are no more sessions than names and not too many
pub record AreKept (keys : Keys) (slab : Slab SessionValue) : Type 0 where
  pub lead : AllByRecursion (Leads slab) keys
  pub distinct : IsDistinct same_name (keys_of keys)
  pub no_more : slab_len slab ≡ length keys
  pub few : length keys ≤ MOST_SESSIONS
