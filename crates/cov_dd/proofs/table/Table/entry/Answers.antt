use Rattle.std.proofs.Common.{◌≡◌, ap, subst, sym, ◌∙◌}
use Rattle.cov_dd.specs.Diagrams.{entry_in, IsDiagram}
use Rattle.cov_dd.proofs.Nodes.{entry-constant, known_entry, no_entry}
use Rattle.cov_dd.proofs.Insertion.{entry-keys}
use Rattle.cov_dd.proofs.table.Table.entry.Goals as goal

pub returns-then-a-lt2-clause-entry : goal.returns-then-a-lt2-clause-entry
returns-then-a-lt2-clause-entry c = sym (entry-constant c.args.self.now c.args.a c.if-a-lt2.true)

found : (c : goal.After-copied) → c.copied.result ≡ entry_in c.args.self.now c.args.a
found c = c.copied.ensures ∙ c.get_index.ensures.key ∙ sym (entry-keys c.self.inside.entries.keys c.args.a c.if-a-lt2.false) ∙ ap (λ ts. entry_in ts c.args.a) c.self.view_is

pub returns-clause-entry : goal.returns-clause-entry
returns-clause-entry c = found c

pub returns-clause-known : goal.returns-clause-known
returns-clause-known c = known_entry c.args.self.now c.args.a c.copied.result (subst IsDiagram c.self.view_is c.self.invariant.diagram) (found c)

pub returns-clause-none : goal.returns-clause-none
returns-clause-none c = λ within. no_entry c.args.self.now c.args.a c.copied.result within (found c)
