use Rattle.std.proofs.Common.{◌∙◌, sym, ap, subst, ◌+◌, ◌∷◌, []}
use Rattle.cov_edit.specs.History.{text_bytes}
use Rattle.cov_edit.specs.declared.edit.Edit.TheVariants as edits
use Rattle.cov_history.specs.Sessions.{edits_of}
use Rattle.cov_session.specs.Adding.{addition_fault, IsAdditionFault}
use Rattle.cov_session.specs.Open.{SessionValue}
use Rattle.cov_session.proofs.Counting.{one-light}
use Rattle.cov_session.proofs.Heads.{IsHeadFault}
use Rattle.cov_session.proofs.Replacing.{head-refused}
use Rattle.cov_session.proofs.session.OpenSession.replace.Goals as goal

pub returns-then-is_head-clause-refused : goal.returns-then-is_head-clause-refused
returns-then-is_head-clause-refused c = λ history here.
    subst (λ fault. IsAdditionFault fault (addition_fault history c.args.self.now.session (edits.Insert c.args.file c.args.line c.args.text ∷ edits.Delete c.args.file c.args.line ∷ []))) (sym c.from.ensures)
    (head-refused history c.args.self.now c.args.file c.args.line c.args.text c.in_ok-bytes.ensures.room
    (one-light (edits_of c.args.self.now.session) (edits.Insert c.args.file c.args.line c.args.text) c.in_ok-bytes.bytes c.in_ok-bytes.ensures.light (c.in_ok-bytes.ensures.bytes ∙ ap (λ n. text_bytes (edits_of c.args.self.now.session) + n) c.len.ensures))
    c.holding_stands.ensures c.replay_stands.ensures here (sym c.is_head.ensures ∙ c.if-is_head.true) c.head_fault.result
    (subst (λ (s : SessionValue). IsHeadFault s.view c.args.file c.head_fault.result) c.self.view_is c.head_fault.ensures _ _ _ here.shows))
