-- Sessions as their history grows, and as they begin.
use Rattle.std.proofs.Common.{◌≡◌, ◌∙◌, refl, sym, ap, subst, ℕ, ◌≤◌, Bool, true, List, [], ◌++◌, length, take, None, arith}
use Rattle.std.specs.List.{fold}
use Rattle.std.proofs.lemmas.List.{take-append-le}
use Rattle.std.proofs.Math.Nat.{max-le}
use Rattle.std.proofs.Math.Seq.{take-length}
use Rattle.cov_expr.specs.Formula.{Formula, value, reach}
use Rattle.cov_edit.specs.declared.command.Command.{Command}
use Rattle.cov_edit.specs.Sides.{reach_within}
use Rattle.cov_edit.specs.declared.sided.Sided.{Sided}
use Rattle.cov_edit.specs.History.{constraints_of, option_count, first_false_in, is_valid_in}
use Rattle.cov_edit.specs.Numbering.{numbers_of, numbers_after, numbered}
use Rattle.cov_edit.specs.Variant.{edited}
use Rattle.cov_edit.specs.Replay.{replay}
use Rattle.cov_view.specs.Seen.{Seen}
use Rattle.cov_view.specs.Views.{Shows}
use Rattle.cov_history.specs.Laws.{GoodSessionsStay}
use Rattle.cov_history.specs.Sessions.{edits_of, IsGood}
use Rattle.cov_engine.proofs.CallerLemmas.{all-valid}
use Rattle.cov_session.specs.Laws.{OpenSessionsStay}
use Rattle.cov_session.specs.Open.{IsOpen}
use Rattle.cov_session.specs.Opening.{new_session}

pub open-stays : GoodSessionsStay → OpenSessionsStay
open-stays stays history later s here =
    let within : s.session.base ≤ length history = here.good.within in
    let e : take s.session.base history ≡ take s.session.base (history ++ later) = sym (take-append-le s.session.base history later within) in
    record {
      good = stays history later s.session here.good;
      side_in_reach = subst (λ h. reach s.side ≤ option_count h) e here.side_in_reach;
      in_side = here.in_side;
      shows = subst (λ h. Shows (numbers_of h) (numbers_after (numbers_of h) (edits_of s.session)).addresses s.view (fold edited (replay s.session.choice h) (numbered (numbers_of h) (edits_of s.session)))) e here.shows;
      nodes = here.nodes;
      lines = here.lines;
    }

-- a session that begins is open
pub open-first : (history : List Command) (name : List ℕ) (base : ℕ) (c : List Bool) (ambition side : Formula ℕ) (ss : List Sided) (view : Seen)
    → base ≡ length history → ss ≡ [] → view.nodes_made ≡ 0 → view.lines_made ≡ 0
    → length c ≡ option_count history → reach ambition ≤ option_count history → first_false_in history c ≡ None → value ambition c ≡ true
    → reach side ≤ option_count history → value side c ≡ true
    → Shows (numbers_of history) (numbers_of history).addresses view (replay c history)
    → IsOpen history (record { name = name; side = side; session = record { base = base; choice = c; ambition = ambition; edits = ss }; view = view })
open-first history name base c ambition side ss view now none nodes lines count within valid inside low own shows =
    subst (λ b. IsOpen history (record { name = name; side = side; session = record { base = b; choice = c; ambition = ambition; edits = ss }; view = view })) (sym now)
    (subst (λ ts. IsOpen history (record { name = name; side = side; session = record { base = length history; choice = c; ambition = ambition; edits = ts }; view = view })) (sym none)
    (record {
      good = good;
      side_in_reach = subst (λ h. reach side ≤ option_count h) (sym whole) low;
      in_side = own;
      shows = subst (λ h. Shows (numbers_of h) (numbers_of h).addresses view (replay c h)) (sym whole) shows;
      nodes = nodes;
      lines = lines;
    }))
  where
    whole : take (length history) history ≡ history
    whole = take-length history

    good : IsGood history (new_session history ambition c)
    good = record {
      within = omega arith;
      of_all_options = count ∙ sym (ap option_count whole);
      valid = ap (λ h. is_valid_in h c) whole ∙ all-valid (constraints_of history) c valid;
      in_ambition = inside;
      in_sides = tt;
      in_reach = subst (λ h. reach_within ambition [] ≤ option_count h) (sym whole) (max-le within (omega arith));
      accepted = refl;
    }
