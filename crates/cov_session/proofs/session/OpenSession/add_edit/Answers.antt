use Rattle.std.proofs.Common.{◌≡◌, ◌∙◌, ap, sym, subst, ◌+◌, ◌<◌, [], ◌∷◌, ◌++◌, length, arith}
use Rattle.cov_base.specs.declared.limits.TheConstants.{LIMITS}
use Rattle.cov_edit.specs.History.{text_bytes, edit_bytes}
use Rattle.cov_edit.specs.Numbering.{nodes_made, anchors_of}
use Rattle.cov_edit.specs.Sides.{sided, unsided}
use Rattle.cov_history.specs.Sessions.{edits_of}
use Rattle.cov_session.specs.Adding.{addition_fault, IsAdditionFault, on_side}
use Rattle.cov_session.specs.Open.{SessionValue, IsOpen}
use Rattle.cov_session.specs.contracts.session.OpenSession.{the_view}
use Rattle.cov_engine.proofs.CallerLemmas.{Accepts, Applies, Refuses}
use Rattle.cov_session.proofs.Adding.{accepted-by, refused-by, open-after}
use Rattle.cov_session.proofs.Counting.{nodes-fit, lines-fit, one-light, counted-after, last-is}
use Rattle.cov_session.proofs.Sided.{grown-by}
use Rattle.cov_session.proofs.session.OpenSession.add_edit.Goals as goal

pub apply-requires-clause-nodes : goal.apply-requires-clause-nodes
apply-requires-clause-nodes c =
    nodes-fit c.self.inside.view (unsided c.self.inside.edits) c.self.inside.bytes c.self.invariant (subst (λ (s : SessionValue). length (edits_of s.session) < LIMITS.edits) (sym c.self.view_is) c.requires.room)

pub apply-requires-clause-lines : goal.apply-requires-clause-lines
apply-requires-clause-lines c =
    lines-fit c.self.inside.view (unsided c.self.inside.edits) c.self.inside.bytes c.self.invariant (subst (λ (s : SessionValue). length (edits_of s.session) < LIMITS.edits) (sym c.self.view_is) c.requires.room)

pub invariant_of-self-in-Ok : goal.invariant_of-self-in-Ok
invariant_of-self-in-Ok c =
    let is : c.in-Some.last.now ≡ c.args.edit = last-is c.in-Some.last.now c.args.edit (c.in-Some.ensures.last c.self.inside.edits (sided c.in_ok-side.side c.args.edit) c.in_ok-push.ensures.ok) in
    let room : length (unsided c.self.inside.edits) < LIMITS.edits = subst (λ (s : SessionValue). length (edits_of s.session) < LIMITS.edits) (sym c.self.view_is) c.requires.room in
    let sum : c.args.bytes ≡ text_bytes (unsided c.self.inside.edits) + edit_bytes c.args.edit =
    subst (λ (s : SessionValue). c.args.bytes ≡ text_bytes (edits_of s.session) + edit_bytes c.args.edit) (sym c.self.view_is) c.requires.bytes in
    counted-after c.self.inside.view c.apply.new.self (unsided c.self.inside.edits) (c.args.edit ∷ []) (unsided c.push.new.self) c.self.inside.bytes c.args.bytes c.self.invariant
    (subst (λ e. c.apply.new.self.nodes_made ≡ c.self.inside.view.nodes_made + nodes_made (e ∷ [])) is c.in-Ok.ensures.nodes)
    (subst (λ e. c.apply.new.self.lines_made ≡ c.self.inside.view.lines_made + length (anchors_of 0 (e ∷ []))) is c.in-Ok.ensures.lines)
    (grown-by c.push.new.self c.self.inside.edits c.in_ok-side.side (c.args.edit ∷ []) c.in_ok-push.ensures.ok) (omega (arith, sum)) (omega (arith, room)) c.requires.light

pub returns-in-Ok-clause-accepted : goal.returns-in-Ok-clause-accepted
returns-in-Ok-clause-accepted c = λ history here.
    let is : c.in-Some.last.now ≡ c.args.edit = last-is c.in-Some.last.now c.args.edit (c.in-Some.ensures.last c.self.inside.edits (sided c.in_ok-side.side c.args.edit) c.in_ok-push.ensures.ok) in
    let accepts : Accepts c.args.self.now.view c.args.edit = subst (λ (s : SessionValue). Accepts s.view c.args.edit) c.self.view_is (subst (Accepts c.self.inside.view) is c.in-Ok.ensures.accepted) in
    accepted-by history c.args.self.now c.args.edit c.holding_stands.ensures c.replay_stands.ensures here c.requires.room
    (one-light (edits_of c.args.self.now.session) c.args.edit c.args.bytes c.requires.light c.requires.bytes) (accepts _ _ _ here.shows)

pub returns-in-Ok-clause-open : goal.returns-in-Ok-clause-open
returns-in-Ok-clause-open c = λ history here.
    let is : c.in-Some.last.now ≡ c.args.edit = last-is c.in-Some.last.now c.args.edit (c.in-Some.ensures.last c.self.inside.edits (sided c.in_ok-side.side c.args.edit) c.in_ok-push.ensures.ok) in
    let s : SessionValue = the_view c.self.inside in
    let opens : IsOpen history s = subst (IsOpen history) (sym c.self.view_is) here in
    subst (λ ss. IsOpen history (record { name = s.name; side = s.side; session = record { base = s.session.base; choice = s.session.choice; ambition = s.session.ambition; edits = ss }; view = c.apply.new.self }))
    (sym (c.in_ok-push.ensures.ok ∙ ap (λ side. c.self.inside.edits ++ on_side side (c.args.edit ∷ [])) c.in_ok-side.ensures))
    (open-after history s c.args.edit c.holding_stands.ensures c.replay_stands.ensures opens s.side c.apply.new.self opens.side_in_reach opens.in_side
    (subst (Accepts s.view) is c.in-Ok.ensures.accepted) (subst (λ e. Applies s.view e c.apply.new.self) is c.in-Ok.ensures.applied)
    (subst (λ e. c.apply.new.self.nodes_made ≡ s.view.nodes_made + nodes_made (e ∷ [])) is c.in-Ok.ensures.nodes)
    (subst (λ e. c.apply.new.self.lines_made ≡ s.view.lines_made + length (anchors_of 0 (e ∷ []))) is c.in-Ok.ensures.lines))

pub returns-in-Err-clause-refused : goal.returns-in-Err-clause-refused
returns-in-Err-clause-refused c = λ history here.
    let is : c.in-Some.last.now ≡ c.args.edit = last-is c.in-Some.last.now c.args.edit (c.in-Some.ensures.last c.self.inside.edits (sided c.in_ok-side.side c.args.edit) c.in_ok-push.ensures.ok) in
    let refuses : Refuses c.in-Err.fault c.args.self.now.view c.args.edit =
    subst (λ (s : SessionValue). Refuses c.in-Err.fault s.view c.args.edit) c.self.view_is (subst (Refuses c.in-Err.fault c.self.inside.view) is c.in-Err.ensures.refused) in
    subst (λ fault. IsAdditionFault fault (addition_fault history c.args.self.now.session (c.args.edit ∷ []))) (sym c.from.ensures)
    (refused-by history c.args.self.now c.args.edit c.holding_stands.ensures c.replay_stands.ensures here c.requires.room
    (one-light (edits_of c.args.self.now.session) c.args.edit c.args.bytes c.requires.light c.requires.bytes) c.in-Err.fault (refuses _ _ _ here.shows))
