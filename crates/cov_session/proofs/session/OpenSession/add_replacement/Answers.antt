use Rattle.std.proofs.Common.{◌≡◌, ◌∙◌, sym, ap, subst, ◌+◌, ◌≤◌, [], ◌∷◌, length, None, arith}
use Rattle.cov_base.specs.declared.limits.TheConstants.{LIMITS}
use Rattle.cov_edit.specs.declared.edit.Edit.TheVariants as edits
use Rattle.cov_edit.specs.History.{text_bytes}
use Rattle.cov_edit.specs.Numbering.{nodes_made, anchors_of}
use Rattle.cov_edit.specs.Sides.{unsided}
use Rattle.cov_view.specs.Seen.{Seen, seen_fault, seen_after}
use Rattle.cov_history.specs.Sessions.{edits_of}
use Rattle.cov_session.specs.Adding.{addition_fault, IsAdditionFault}
use Rattle.cov_session.specs.Open.{SessionValue, IsOpen}
use Rattle.cov_session.specs.contracts.session.OpenSession.{the_view}
use Rattle.cov_engine.proofs.CallerLemmas.{Accepts, Applies, Refuses}
use Rattle.cov_session.proofs.Counting.{nodes-fit, lines-fit, one-light, counted-after}
use Rattle.cov_session.proofs.Deleting.{deletes-after, inserted, delete-fits}
use Rattle.cov_session.proofs.Replacing.{both-accepted, both-open, both-refused}
use Rattle.cov_session.proofs.Sided.{grown-by}
use Rattle.cov_session.proofs.session.OpenSession.add_replacement.Goals as goal

pub apply-requires-clause-nodes : goal.apply-requires-clause-nodes
apply-requires-clause-nodes c =
    let room : length (unsided c.self.inside.edits) + 2 ≤ LIMITS.edits = subst (λ (s : SessionValue). length (edits_of s.session) + 2 ≤ LIMITS.edits) (sym c.self.view_is) c.requires.room in
    nodes-fit c.self.inside.view (unsided c.self.inside.edits) c.self.inside.bytes c.self.invariant (omega (arith, room))

pub apply-requires-clause-lines : goal.apply-requires-clause-lines
apply-requires-clause-lines c =
    let room : length (unsided c.self.inside.edits) + 2 ≤ LIMITS.edits = subst (λ (s : SessionValue). length (edits_of s.session) + 2 ≤ LIMITS.edits) (sym c.self.view_is) c.requires.room in
    lines-fit c.self.inside.view (unsided c.self.inside.edits) c.self.inside.bytes c.self.invariant (omega (arith, room))

pub delete_line-requires-clause-nodes : goal.delete_line-requires-clause-nodes
delete_line-requires-clause-nodes c =
    (delete-fits c.self.inside.side c.self.inside.view c.apply.new.self c.push_both.new.list c.self.inside.edits c.self.inside.bytes c.len.result c.in-Some.insert.now _ c.args.file.now c.args.line.now c.args.text
    c.self.invariant (subst (λ (s : SessionValue). length (edits_of s.session) + 2 ≤ LIMITS.edits) (sym c.self.view_is) c.requires.room)
    c.in-Some.ensures c.in_ok-push_both.ensures.ok c.len.ensures c.in-Ok.ensures.nodes c.in-Ok.ensures.lines).0

pub delete_line-requires-clause-lines : goal.delete_line-requires-clause-lines
delete_line-requires-clause-lines c =
    (delete-fits c.self.inside.side c.self.inside.view c.apply.new.self c.push_both.new.list c.self.inside.edits c.self.inside.bytes c.len.result c.in-Some.insert.now _ c.args.file.now c.args.line.now c.args.text
    c.self.invariant (subst (λ (s : SessionValue). length (edits_of s.session) + 2 ≤ LIMITS.edits) (sym c.self.view_is) c.requires.room)
    c.in-Some.ensures c.in_ok-push_both.ensures.ok c.len.ensures c.in-Ok.ensures.nodes c.in-Ok.ensures.lines).1

pub delete_line-requires-clause-there : goal.delete_line-requires-clause-there
delete_line-requires-clause-there c =
    let is = inserted c.self.inside.side c.in-Some.insert.now (edits.Insert c.args.file.now c.args.line.now c.args.text) (edits.Delete c.args.file.now c.args.line.now) c.push_both.new.list c.self.inside.edits
    c.len.result c.in-Some.ensures c.in_ok-push_both.ensures.ok c.len.ensures in
    subst (λ (w : Seen). seen_fault w.rows (edits.Delete c.args.file.now c.args.line.now) ≡ None) (sym (c.in-Ok.ensures.made ∙ ap (seen_after c.self.inside.view) is))
    (deletes-after c.self.inside.view c.args.file.now c.args.line.now c.args.text c.requires.a_line (subst (λ e. seen_fault c.self.inside.view.rows e ≡ None) is c.in-Ok.ensures.accepted_seen))

pub invariant_of-self-in-Ok : goal.invariant_of-self-in-Ok
invariant_of-self-in-Ok c =
    let is = inserted c.self.inside.side c.in-Some.insert.now (edits.Insert c.args.file.now c.args.line.now c.args.text) (edits.Delete c.args.file.now c.args.line.now) c.push_both.new.list c.self.inside.edits
    c.len.result c.in-Some.ensures c.in_ok-push_both.ensures.ok c.len.ensures in
    let room : length (unsided c.self.inside.edits) + 2 ≤ LIMITS.edits = subst (λ (s : SessionValue). length (edits_of s.session) + 2 ≤ LIMITS.edits) (sym c.self.view_is) c.requires.room in
    let sum : c.args.bytes ≡ text_bytes (unsided c.self.inside.edits) + length c.args.text = subst (λ (s : SessionValue). c.args.bytes ≡ text_bytes (edits_of s.session) + length c.args.text) (sym c.self.view_is) c.requires.bytes in
    counted-after c.self.inside.view c.delete_line.new.view (unsided c.self.inside.edits) (edits.Insert c.args.file.now c.args.line.now c.args.text ∷ edits.Delete c.args.file.now c.args.line.now ∷ []) (unsided c.push_both.new.list)
    c.self.inside.bytes c.args.bytes c.self.invariant
    (c.delete_line.ensures.nodes ∙ subst (λ e. c.apply.new.self.nodes_made ≡ c.self.inside.view.nodes_made + nodes_made (e ∷ [])) is c.in-Ok.ensures.nodes)
    (c.delete_line.ensures.lines ∙ subst (λ e. c.apply.new.self.lines_made ≡ c.self.inside.view.lines_made + length (anchors_of 0 (e ∷ []))) is c.in-Ok.ensures.lines)
    (grown-by c.push_both.new.list c.self.inside.edits c.self.inside.side (edits.Insert c.args.file.now c.args.line.now c.args.text ∷ edits.Delete c.args.file.now c.args.line.now ∷ []) c.in_ok-push_both.ensures.ok)
    (omega (arith, sum)) (omega (arith, room)) c.requires.light

pub returns-in-Ok-clause-accepted : goal.returns-in-Ok-clause-accepted
returns-in-Ok-clause-accepted c = λ history here.
    let is = inserted c.self.inside.side c.in-Some.insert.now (edits.Insert c.args.file.now c.args.line.now c.args.text) (edits.Delete c.args.file.now c.args.line.now) c.push_both.new.list c.self.inside.edits
    c.len.result c.in-Some.ensures c.in_ok-push_both.ensures.ok c.len.ensures in
    let accepts = subst (λ (s : SessionValue). Accepts s.view (edits.Insert c.args.file.now c.args.line.now c.args.text)) c.self.view_is (subst (Accepts c.self.inside.view) is c.in-Ok.ensures.accepted) in
    let applies = subst (λ (s : SessionValue). Applies s.view (edits.Insert c.args.file.now c.args.line.now c.args.text) c.apply.new.self) c.self.view_is
    (subst (λ e. Applies c.self.inside.view e c.apply.new.self) is c.in-Ok.ensures.applied) in
    both-accepted history c.args.self.now c.args.file.now c.args.line.now c.args.text c.requires.room
    (one-light (edits_of c.args.self.now.session) (edits.Insert c.args.file.now c.args.line.now c.args.text) c.args.bytes c.requires.light c.requires.bytes)
    c.holding_stands.ensures c.replay_stands.ensures here c.apply.new.self accepts applies c.delete_line.ensures.accepted

pub returns-in-Ok-clause-open : goal.returns-in-Ok-clause-open
returns-in-Ok-clause-open c = λ history here.
    let is = inserted c.self.inside.side c.in-Some.insert.now (edits.Insert c.args.file.now c.args.line.now c.args.text) (edits.Delete c.args.file.now c.args.line.now) c.push_both.new.list c.self.inside.edits
    c.len.result c.in-Some.ensures c.in_ok-push_both.ensures.ok c.len.ensures in
    let s : SessionValue = the_view c.self.inside in
    let bytes = subst (λ (s : SessionValue). c.args.bytes ≡ text_bytes (edits_of s.session) + length c.args.text) (sym c.self.view_is) c.requires.bytes in
    subst (λ ss. IsOpen history (record { name = s.name; side = s.side; session = record { base = s.session.base; choice = s.session.choice; ambition = s.session.ambition; edits = ss }; view = c.delete_line.new.view }))
    (sym c.in_ok-push_both.ensures.ok)
    (both-open history s c.args.file.now c.args.line.now c.args.text (subst (λ (s : SessionValue). length (edits_of s.session) + 2 ≤ LIMITS.edits) (sym c.self.view_is) c.requires.room)
    (one-light (edits_of s.session) (edits.Insert c.args.file.now c.args.line.now c.args.text) c.args.bytes c.requires.light bytes)
    c.holding_stands.ensures c.replay_stands.ensures (subst (IsOpen history) (sym c.self.view_is) here) c.apply.new.self c.delete_line.new.view
    (subst (Accepts s.view) is c.in-Ok.ensures.accepted) (subst (λ e. Applies s.view e c.apply.new.self) is c.in-Ok.ensures.applied)
    (subst (λ e. c.apply.new.self.nodes_made ≡ s.view.nodes_made + nodes_made (e ∷ [])) is c.in-Ok.ensures.nodes)
    (subst (λ e. c.apply.new.self.lines_made ≡ s.view.lines_made + length (anchors_of 0 (e ∷ []))) is c.in-Ok.ensures.lines)
    c.delete_line.ensures.accepted c.delete_line.ensures.applied c.delete_line.ensures.nodes c.delete_line.ensures.lines)

pub returns-in-Err-clause-refused : goal.returns-in-Err-clause-refused
returns-in-Err-clause-refused c = λ history here.
    let is = inserted c.self.inside.side c.in-Some.insert.now (edits.Insert c.args.file.now c.args.line.now c.args.text) (edits.Delete c.args.file.now c.args.line.now) c.push_both.new.list c.self.inside.edits
    c.len.result c.in-Some.ensures c.in_ok-push_both.ensures.ok c.len.ensures in
    let refuses = subst (λ (s : SessionValue). Refuses c.in-Err.fault s.view (edits.Insert c.args.file.now c.args.line.now c.args.text)) c.self.view_is
    (subst (Refuses c.in-Err.fault c.self.inside.view) is c.in-Err.ensures.refused) in
    subst
    (λ fault. IsAdditionFault fault (addition_fault history c.args.self.now.session (edits.Insert c.args.file.now c.args.line.now c.args.text ∷ edits.Delete c.args.file.now c.args.line.now ∷ [])))
    (sym c.from.ensures)
    (both-refused history c.args.self.now c.args.file.now c.args.line.now c.args.text c.requires.room
    (one-light (edits_of c.args.self.now.session) (edits.Insert c.args.file.now c.args.line.now c.args.text) c.args.bytes c.requires.light c.requires.bytes)
    c.holding_stands.ensures c.replay_stands.ensures here c.in-Err.fault (refuses _ _ _ here.shows))
