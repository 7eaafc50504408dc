use Rattle.std.proofs.Common.{◌++◌}
use Rattle.std.proofs.lemmas.Result.{on_ok_weaker}
use Rattle.cov_script.specs.Commits.{each_below}
use Rattle.cov_script.specs.Demonstration.{option_line, rule_lines, default_line, first_commit_lines, each_commit}
use Rattle.cov_script.proofs.Repeating.{joined}
use Rattle.cov_script.proofs.demonstration.append_made.Goals as goal

pub returns : goal.returns
returns c =
    let start = c.args.text.now in
    let options = each_below 64 option_line in
    let rules = options ++ rule_lines in
    let defaults = rules ++ each_below 64 default_line in
    let first = defaults ++ first_commit_lines in
    let with_rules = joined start options rule_lines c.append_each.new.text c.append.new.self c.in_ok-append_each.ensures c.in_ok-append.ensures.ok in
    let with_defaults = joined start rules (each_below 64 default_line) c.append.new.self c.append_each-2.new.text with_rules c.in_ok-append_each-2.ensures in
    let with_first = joined start defaults first_commit_lines c.append_each-2.new.text c.append_first_commit.new.text with_defaults c.in_ok-append_first_commit.ensures in
    on_ok_weaker c.append_commits.result (λ is. joined start first (each_commit c.args.number) c.append_first_commit.new.text c.append_commits.new.text with_first is) c.append_commits.ensures
