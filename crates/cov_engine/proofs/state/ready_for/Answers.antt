use Rattle.cov_edit.specs.Recorded.{Recorded}
use Rattle.cov_engine.specs.Refusing.{early_refusal}
use Rattle.cov_engine.specs.States.{IsKept}
use Rattle.cov_engine.specs.Ruling.{IsRefusalOf}
use Rattle.cov_rules.specs.Refusals.{IsAccepted}
use Rattle.std.proofs.Common.{◌≡◌, [], ◌∷◌, refl, sym, ap, subst, ◌∙◌}
use Rattle.std.proofs.lemmas.Result.{IfErr-weaker, IfOk-weaker, on_ok_weaker}
use Rattle.cov_dd.proofs.CallerLemmas.{extends_trans}
use Rattle.cov_edit.specs.History.{option_count}
use Rattle.cov_edit.specs.Sides.{unsided}
use Rattle.cov_edit.specs.declared.command.Command.TheVariants as commands
use Rattle.cov_view.specs.Refusals.{first_of}
use Rattle.cov_view.proofs.CallerLemmas.{first-one}
use Rattle.cov_history.specs.BadChoices.{unsound_refusal}
use Rattle.cov_history.specs.Verdict.{verdict, as_overtaken, RefusedBy}
use Rattle.cov_engine.proofs.Holdings.{held-grown}
use Rattle.cov_engine.proofs.Keeping.{kept-grown, kept-roomier, with_options, option-readied, upgrade-readied, commit-readied}
use Rattle.cov_overtaking.proofs.CallerLemmas.{marks-kept, touched-own}
use Rattle.cov_engine.proofs.Readied.{on-any, commit-summary, reach-declared, in-bounds, late-verdict}
use Rattle.cov_engine.proofs.Refused.{early-may, option-verdict, upgrade-accepted}
use Rattle.cov_engine.proofs.Ruling.{RuleOf, rule-of, as-ready, rule-accepted, rule-refused}
use Rattle.cov_engine.proofs.States.{state-grown}
use Rattle.cov_engine.proofs.state.ready_for.Goals as goal

pub overtaken-requires-clause-kept : goal.overtaken-requires-clause-kept
overtaken-requires-clause-kept c =
    let history = c.args.state.now.commands.commands in
    marks-kept c.args.state.now.visible.table (option_count history) 0 history c.args.state.now.index.commits.items c.requires.kept.1.marks

pub overtaken-requires-clause-own : goal.overtaken-requires-clause-own
overtaken-requires-clause-own c =
    touched-own (unsided c.in-Commit.edits) c.args.summary.touched c.as_slice.result.now c.as_slice.ensures
    (ap (λ s. s.touched) (commit-summary c.args.state.now.commands.commands c.args.command.now c.in-Commit.base c.in-Commit.choice c.in-Commit.ambition c.in-Commit.edits c.in-Commit.is c.requires.passes c.requires.kept.0.0.legal c.args.summary c.requires.summary))

pub commit_ready-requires-clause-summary : goal.commit_ready-requires-clause-summary
commit_ready-requires-clause-summary c =
    commit-summary c.args.state.now.commands.commands c.args.command.now c.in-Commit.base c.in-Commit.choice c.in-Commit.ambition c.in-Commit.edits c.in-Commit.is c.requires.passes c.requires.kept.0.0.legal c.args.summary c.requires.summary

pub commit_ready-requires-clause-kept : goal.commit_ready-requires-clause-kept
commit_ready-requires-clause-kept c = kept-grown c.args.state.now c.overtaken.new.table c.requires.kept c.overtaken.ensures.extends

pub commit_ready-requires-clause-reach : goal.commit_ready-requires-clause-reach
commit_ready-requires-clause-reach c = reach-declared c.args.state.now.commands.commands c.args.command.now c.in-Commit.base c.in-Commit.choice c.in-Commit.ambition c.in-Commit.edits c.in-Commit.is c.requires.passes

pub commit_ready-requires-clause-fits : goal.commit_ready-requires-clause-fits
commit_ready-requires-clause-fits c =
    in-bounds c.args.state.now.commands.commands c.args.command.now c.in-Commit.base c.in-Commit.choice c.in-Commit.ambition c.in-Commit.edits c.in-Commit.is c.requires.passes c.requires.kept.0.0.legal

pub returns-in-Ok-Some-clause-refused : goal.returns-in-Ok-Some-clause-refused
returns-in-Ok-Some-clause-refused c =
    late-verdict c.args.state.now.commands.commands c.args.command.now c.in-Commit.base c.in-Commit.choice c.in-Commit.ambition c.in-Commit.edits c.in-Commit.is c.requires.passes
    c.args.state.now.options.names c.args.state.now.visible.table c.args.state.now.rules.standing c.args.state.now.counts c.args.state.now.index.commits.items
    c.args.state.now.index.file_of_line.items c.args.state.now.visible.entries c.args.state.now.visible.files c.conjunction.result c.in-Ok-Some.field-0 c.requires.few c.requires.kept.0.0 c.requires.kept.1 c.conjunction.ensures
    (c.in-Ok-Some.ensures.first
    (c.as_slice.ensures ∙ ap (λ s. s.touched) (commit-summary c.args.state.now.commands.commands c.args.command.now c.in-Commit.base c.in-Commit.choice c.in-Commit.ambition c.in-Commit.edits c.in-Commit.is c.requires.passes c.requires.kept.0.0.legal c.args.summary c.requires.summary)))
    ∙ ap (λ found. first_of (as_overtaken found ∷ unsound_refusal c.args.state.now.commands.commands c.in-Commit.ambition (commands.Commit c.in-Commit.base c.in-Commit.choice c.in-Commit.ambition c.in-Commit.edits) ∷ [])) c.in-Ok-Some.field-0-is

pub returns-in-Ok-Some-clause-kept : goal.returns-in-Ok-Some-clause-kept
returns-in-Ok-Some-clause-kept c = kept-grown c.args.state.now c.overtaken.new.table c.requires.kept c.overtaken.ensures.extends

judged : (c : goal.After-commit_ready) → verdict c.args.state.now.commands.commands c.args.command.now
    ≡ unsound_refusal c.args.state.now.commands.commands c.in-Commit.ambition (commands.Commit c.in-Commit.base c.in-Commit.choice c.in-Commit.ambition c.in-Commit.edits)
judged c =
    late-verdict c.args.state.now.commands.commands c.args.command.now c.in-Commit.base c.in-Commit.choice c.in-Commit.ambition c.in-Commit.edits c.in-Commit.is c.requires.passes
    c.args.state.now.options.names c.args.state.now.visible.table c.args.state.now.rules.standing c.args.state.now.counts c.args.state.now.index.commits.items
    c.args.state.now.index.file_of_line.items c.args.state.now.visible.entries c.args.state.now.visible.files c.conjunction.result c.in-Ok-None.field-0 c.requires.few c.requires.kept.0.0 c.requires.kept.1 c.conjunction.ensures
    (c.in-Ok-None.ensures.first
    (c.as_slice.ensures ∙ ap (λ s. s.touched) (commit-summary c.args.state.now.commands.commands c.args.command.now c.in-Commit.base c.in-Commit.choice c.in-Commit.ambition c.in-Commit.edits c.in-Commit.is c.requires.passes c.requires.kept.0.0.legal c.args.summary c.requires.summary)))
    ∙ ap (λ found. first_of (as_overtaken found ∷ unsound_refusal c.args.state.now.commands.commands c.in-Commit.ambition (commands.Commit c.in-Commit.base c.in-Commit.choice c.in-Commit.ambition c.in-Commit.edits) ∷ [])) c.in-Ok-None.field-0-is
    ∙ first-one _

pub returns-in-Ok-None-clause-extends : goal.returns-in-Ok-None-clause-extends
returns-in-Ok-None-clause-extends c = extends_trans c.args.state.now.visible.table c.overtaken.new.table c.commit_ready.new.state.visible.table c.overtaken.ensures.extends c.commit_ready.ensures.extends

pub returns-in-Ok-None-clause-accepted : goal.returns-in-Ok-None-clause-accepted
returns-in-Ok-None-clause-accepted c = on_ok_weaker c.commit_ready.result (λ sound. judged c ∙ sound c.in-Commit.base c.in-Commit.choice) c.commit_ready.ensures.sound

pub returns-in-Ok-None-clause-ready : goal.returns-in-Ok-None-clause-ready
returns-in-Ok-None-clause-ready c =
    commit-readied c.commit_ready.new.state c.args.command.now c.in-Commit.base c.in-Commit.choice c.in-Commit.ambition c.in-Commit.edits c.in-Commit.is
    (ap (λ (ks : Recorded). early_refusal ks.commands c.args.command.now) c.commit_ready.ensures.commands ∙ c.requires.passes) c.commit_ready.result c.commit_ready.ensures.ready

pub returns-in-Ok-None-clause-refused : goal.returns-in-Ok-None-clause-refused
returns-in-Ok-None-clause-refused c =
    IfErr-weaker c.commit_ready.result _ _ (λ r refused. subst (RefusedBy r) (sym (judged c)) (refused c.in-Commit.base c.in-Commit.choice)) c.commit_ready.ensures.refused

pub returns-in-Err-clause-kept : goal.returns-in-Err-clause-kept
returns-in-Err-clause-kept c = kept-grown c.args.state.now c.overtaken.new.table c.requires.kept c.overtaken.ensures.extends

pub returns-in-Option-clause-ready : goal.returns-in-Option-clause-ready
returns-in-Option-clause-ready c =
    option-readied (with_options c.args.state.now c.option_ready.new.options) c.args.command.now c.in-Option.name c.in-Option.is
    (kept-roomier c.args.state.now c.option_ready.new.options c.requires.kept c.option_ready.ensures.names) c.option_ready.result c.option_ready.ensures.room c.option_ready.ensures.ready

pub returns-in-Option-clause-accepted : goal.returns-in-Option-clause-accepted
returns-in-Option-clause-accepted c =
    on_ok_weaker c.option_ready.result
    (λ none.
    option-verdict c.args.state.now.commands.commands c.args.command.now c.in-Option.name c.limits_now-limits.result.options c.args.state.now.options.names c.in-Option.is c.requires.few
    (ap (λ l. l.options) c.limits_now-limits.ensures) c.requires.kept.0.0.options
    ∙ none)
    c.option_ready.ensures.accepted

pub returns-in-Option-clause-refused : goal.returns-in-Option-clause-refused
returns-in-Option-clause-refused c =
    IfErr-weaker c.option_ready.result _ _
    (λ r refused.
    subst (RefusedBy r)
    (sym
    (option-verdict c.args.state.now.commands.commands c.args.command.now c.in-Option.name c.limits_now-limits.result.options c.args.state.now.options.names c.in-Option.is c.requires.few
    (ap (λ l. l.options) c.limits_now-limits.ensures) c.requires.kept.0.0.options))
    refused)
    c.option_ready.ensures.refused

pub returns-in-Upgrade-clause-accepted : goal.returns-in-Upgrade-clause-accepted
returns-in-Upgrade-clause-accepted c = upgrade-accepted c.args.state.now.commands.commands c.args.command.now c.in-Upgrade.is c.requires.few c.requires.passes

pub returns-in-Upgrade-clause-ready : goal.returns-in-Upgrade-clause-ready
returns-in-Upgrade-clause-ready c = upgrade-readied c.args.state.now c.args.command.now c.in-Upgrade.is c.requires.kept

pub returns-in-Option-clause-kept : goal.returns-in-Option-clause-kept
returns-in-Option-clause-kept c = on-any c.option_ready.result _ (kept-roomier c.args.state.now c.option_ready.new.options c.requires.kept c.option_ready.ensures.names)

pub returns-in_default : goal.returns-in_default
returns-in_default c =
    let history = c.args.state.now.commands.commands in
    let k = c.args.command.now in
    let ts = c.args.state.now.visible.table in
    let standing = c.args.state.now.rules.standing in
    let of : RuleOf k = rule-of k c.in_default.not-Option c.in_default.not-Commit c.in_default.not-Upgrade in
    let allowed = (ap (λ l. l.rules) c.limits_now-limits.ensures) in
    let kept : IsKept (record {
      commands = c.args.state.now.commands;
      options = c.args.state.now.options;
      option_positions = c.args.state.now.option_positions;
      rules = c.rule_ready.new.rules;
      counts = c.args.state.now.counts;
      index = c.args.state.now.index;
      visible = record { table = c.rule_ready.new.table; entries = c.args.state.now.visible.entries; files = c.args.state.now.visible.files };
      upgraded = c.args.state.now.upgraded;
    }) = (
      (
        state-grown history c.args.state.now.options.names ts c.rule_ready.new.table standing c.rule_ready.new.rules.standing c.args.state.now.counts
            c.requires.kept.0.0 c.rule_ready.ensures.extends c.rule_ready.ensures.same,
        c.requires.kept.0.1,
        c.requires.kept.0.2,
      ),
      held-grown history ts c.rule_ready.new.table c.args.state.now.index.commits.items c.args.state.now.index.file_of_line.items c.args.state.now.visible.entries c.args.state.now.visible.files c.requires.kept.1 c.rule_ready.ensures.extends,
    ) in
    record {
      commands = refl;
      extends = c.rule_ready.ensures.extends;
      accepted = on_ok_weaker c.rule_ready.result (λ accepted. rule-accepted history ts standing c.requires.kept.0.0.rules c.requires.few k of.rule of.is (early-may history k c.requires.passes) (subst (λ l. IsAccepted l standing of.rule) allowed (accepted of.rule of.is))) c.rule_ready.ensures.accepted;
      ready = IfOk-weaker c.rule_ready.result _ _ (λ own is. (
        kept.0,
        as-ready history k c.args.state.now.options.spare c.rule_ready.new.table c.rule_ready.new.rules _ c.args.state.now.index.commits.items c.args.state.now.index.file_of_line.items c.args.state.now.visible.entries c.args.state.now.visible.files
            kept.1 own is,
      )) c.rule_ready.ensures.ready;
      refused = IfErr-weaker c.rule_ready.result _ _ (λ r refused. rule-refused history ts standing c.requires.kept.0.0.rules c.requires.few k of.rule of.is (early-may history k c.requires.passes) r (subst (λ l. IsRefusalOf l standing of.rule r) allowed (refused of.rule of.is))) c.rule_ready.ensures.refused;
      kept = on-any c.rule_ready.result _ kept;
    }
