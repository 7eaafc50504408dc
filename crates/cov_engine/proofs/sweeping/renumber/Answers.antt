use Rattle.std.proofs.Common.{◌≡◌, ◌≤◌, ◌+◌, ◌++◌, ◌∙◌, ap, sym, refl, length, length-take-le, map, take, drop, arith}
use Rattle.std.proofs.lemmas.List.{length-drop}
use Rattle.cov_rules.specs.Renumbered.{nodes_of as rule_nodes}
use Rattle.cov_tree.specs.Renumbered.{visibilities}
use Rattle.cov_visible.specs.Renumbered.{line_nodes}
use Rattle.cov_overtaking.specs.Marks.{all_mark_nodes, without_nodes as without_mark_nodes}
use Rattle.cov_overtaking.proofs.CallerLemmas.{marks-numbers, marks-shape}
use Rattle.cov_engine.proofs.Renumbered.{nodes-count, taken-four}
use Rattle.cov_engine.proofs.sweeping.renumber.Goals as goal
use Rattle.cov_engine.proofs.sweeping.renumber.Goals.{After-renumber}

second_is : (c : After-renumber) → c.renumber-second.result ≡ length (rule_nodes c.args.state.now.rules.standing)
second_is c = omega (arith, c.renumber-second.ensures.next)

third_is : (c : After-renumber) → c.renumber-third.result ≡ length (rule_nodes c.args.state.now.rules.standing) + length (visibilities c.args.state.now.visible.entries)
third_is c = omega (arith, c.renumber-third.ensures.next, second_is c)

fourth_is : (c : After-renumber) → c.renumber-fourth.result
    ≡ length (rule_nodes c.args.state.now.rules.standing) + length (visibilities c.args.state.now.visible.entries) + length (line_nodes c.args.state.now.visible.files)
fourth_is c = omega (arith, c.renumber-fourth.ensures.next, third_is c)

-- there are enough nodes behind the others for those of the commits
enough : (c : After-renumber) → length (all_mark_nodes c.args.state.now.index.commits.items) ≤ length (drop c.renumber-fourth.result c.args.from.now)
enough c = omega (arith, c.requires, nodes-count c.args.state.now, fourth_is c, length-drop c.renumber-fourth.result c.args.from.now)

pub returns-clause-state : goal.returns-clause-state
returns-clause-state c =
    let count = nodes-count c.args.state.now in
    let from = c.args.from.now in
    let second = c.renumber-second.result in
    record {
      commands = refl;
      options = refl;
      positions = refl;
      counts = refl;
      upgraded = refl;
      table = refl;
      rule_count = ap length c.renumber-second.ensures.nodes ∙ length-take-le (length (rule_nodes c.args.state.now.rules.standing)) from (omega (arith, c.requires, count));
      rules = c.renumber-second.ensures.same;
      holds = c.renumber-second.ensures.holds;
      entry_count = ap length c.renumber-third.ensures.nodes
          ∙ length-take-le (length (visibilities c.args.state.now.visible.entries)) (drop second from) (omega (arith, c.requires, count, c.renumber-second.ensures.next, length-drop second from));
      entries = c.renumber-third.ensures.same;
      rows = c.renumber-third.ensures.rows;
      files = c.renumber-fourth.ensures.parts;
      file_of_line = refl;
      commits = ap (map without_mark_nodes) c.renumber.ensures.items ∙ marks-shape c.args.state.now.index.commits.items (drop c.renumber-fourth.result from) (enough c);
    }

pub returns-clause-nodes : goal.returns-clause-nodes
returns-clause-nodes c =
    let s = c.args.state.now in
    let from = c.args.from.now in
    let r = length (rule_nodes s.rules.standing) in
    let e = length (visibilities s.visible.entries) in
    let f = length (line_nodes s.visible.files) in
    let m = length (all_mark_nodes s.index.commits.items) in
    let fourth = c.renumber-fourth.result in
    let marks : all_mark_nodes c.renumber.new.self.items ≡ take m (drop fourth from) =
    ap all_mark_nodes c.renumber.ensures.items ∙ marks-numbers s.index.commits.items (drop fourth from) (enough c) in
    (λ j. c.renumber-second.ensures.nodes j ++ (c.renumber-third.ensures.nodes j ++ (c.renumber-fourth.ensures.nodes j ++ marks j)))
    ∙ (λ j. take r from ++ (take e (drop (second_is c j) from) ++ (take f (drop (third_is c j) from) ++ take m (drop (fourth_is c j) from))))
    ∙ taken-four from r e f m ∙ ap (λ n. take n from) (sym (nodes-count s))
