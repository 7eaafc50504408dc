use Rattle.std.proofs.Common.{◌≡◌, ℕ, Bool, List, Option, false, nat_eq, length, take, option_map, sym, ap, subst, ◌∙◌, arith}
use Rattle.std.proofs.lemmas.Bool.Decides.{nat_tests}
use Rattle.cov_base.specs.Rows.{AreOnce}
use Rattle.cov_edit.specs.declared.sided.Sided.{Sided}
use Rattle.cov_edit.specs.Sides.{unsided}
use Rattle.cov_history.specs.declared.refusal.Refusal.TheVariants as refusals
use Rattle.cov_history.proofs.CallerLemmas.{replay-once}
use Rattle.cov_view.specs.Refusals.{first_of}
use Rattle.cov_engine.specs.declared.state.EngineState.{EngineState}
use Rattle.cov_engine.specs.declared.summary.EditSummary.{EditSummary}
use Rattle.cov_engine.specs.Holdings.{AreRowsAndLinesOf}
use Rattle.cov_engine.specs.Refusing.{edit_refusals}
use Rattle.cov_engine.specs.States.{AreDeclarationsOf}
use Rattle.cov_visible.specs.Trying.{place_refused, seen_tried}
use Rattle.cov_engine.proofs.NamedView.{tried-first}
use Rattle.cov_engine.proofs.Refused.{edits-found}
use Rattle.cov_engine.proofs.Wholes.{held-rise}
use Rattle.cov_engine.proofs.refusing.edit_refusal.Goals as goal

pub first_refused-requires-clause-rising : goal.first_refused-requires-clause-rising
first_refused-requires-clause-rising c =
    let state = c.args.state.now in held-rise state.commands.commands state.visible.table state.index.commits.items state.index.file_of_line.items state.visible.entries state.visible.files c.requires.kept.1

pub first_refused-requires-clause-nodes : goal.first_refused-requires-clause-nodes
first_refused-requires-clause-nodes c = ap (λ (s : EditSummary). s.touched) (c.requires.summary c.requires.few)

pub first_refused-requires-clause-changing : goal.first_refused-requires-clause-changing
first_refused-requires-clause-changing c = ap (λ (s : EditSummary). s.changes_rows) (c.requires.summary c.requires.few)

pub first_refused-requires-clause-once : goal.first_refused-requires-clause-once
first_refused-requires-clause-once c =
    subst AreOnce (sym (c.requires.kept.1.of_entries.rows c.args.choice c.args.base)) (replay-once c.args.choice (take c.args.base c.args.state.now.commands.commands))

module _ (state : EngineState) (base : ℕ) (choice : List Bool) (es : List Sided)
    (told : AreDeclarationsOf state.commands.commands state.options.names state.visible.table state.rules.standing state.counts)
    (held : AreRowsAndLinesOf state.commands.commands state.visible.table state.index.commits.items state.index.file_of_line.items state.visible.entries state.visible.files)
    (tests : Bool) (none : tests ≡ nat_eq (length es) 0) (some : tests ≡ false) (found : Option ℕ) (first : found ≡ place_refused 0 (seen_tried state.visible choice base (unsided es)) (unsided es)) where
  told-found : option_map refusals.BadRecord found ≡ first_of (edit_refusals (take base state.commands.commands) choice es)
  told-found =
      let is : nat_eq (length es) 0 ≡ false = sym none ∙ some in
      edits-found (take base state.commands.commands) choice es (grind (arith, nat_tests, is)) found
      (tried-first state.commands.commands state.index.commits.items state.index.file_of_line.items state.visible choice base (unsided es) found told.legal held first)

pub returns-in-Some : goal.returns-in-Some
returns-in-Some c =
    ap (option_map refusals.BadRecord) (sym c.in-Some.is)
    ∙ told-found c.args.state.now c.args.base c.args.choice c.args.edits.now c.requires.kept.0.0 c.requires.kept.1 c.is_empty.result c.is_empty.ensures c.if-is_empty.false c.in_ok-edit.field-0 c.in_ok-edit.ensures

pub returns-in-None : goal.returns-in-None
returns-in-None c =
    ap (option_map refusals.BadRecord) (sym c.in-None.is)
    ∙ told-found c.args.state.now c.args.base c.args.choice c.args.edits.now c.requires.kept.0.0 c.requires.kept.1 c.is_empty.result c.is_empty.ensures c.if-is_empty.false c.in_ok-edit.field-0 c.in_ok-edit.ensures
