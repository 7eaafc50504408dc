use Rattle.std.proofs.Common.{◌∙◌, ap, map, refl}
use Rattle.cov_cond_text.specs.Readers.{condition_in}
use Rattle.cov_cond_text.specs.declared.reader.Reader.{Reader}
use Rattle.cov_cond_text.proofs.ReadSteps.{ended-run}
use Rattle.cov_cond_text.proofs.reader.Reader.end_run.Goals as goal

pub returns-clause-done : goal.returns-clause-done
returns-clause-done c =
    let after : Reader = record {
      alloc = c.args.self.now.alloc;
      runs = c.push.new.self;
      texts = c.replace-texts.new.dest;
      blocks = c.args.self.now.blocks;
      room = c.args.self.now.room;
      directives = c.args.self.now.directives;
    } in
    ended-run c.args.self.now after (record { group = c.args.self.now.directives; conditions = c.in_ok-conditions.conditions; texts = c.replace-texts.result })
    c.in_ok-push.ensures.runs (c.replace-texts.ensures.after ∙ c.new.ensures) refl refl
    (c.in_ok-conditions.ensures ∙ ap (map condition_in) c.as_slice.ensures.value) c.replace-texts.ensures.value
