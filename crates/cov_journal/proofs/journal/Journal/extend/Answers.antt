use Rattle.std.proofs.Common.{◌≡◌, ◌⊎◌, inl, ℕ, ◌+◌, List, [], ◌∷◌, ◌++◌, length, ap, sym, ◌∙◌, subst, arith}
use Rattle.cov_base.specs.Texts.{Written}
use Rattle.cov_disk.specs.Images.{LeavesOnly, Told}
use Rattle.cov_journal.specs.Moments.{IsTornFrom}
use Rattle.cov_journal.specs.Journal.{State, Fits, FitsState, IsWritten, AppendsRecord, body, next_digest}
use Rattle.cov_journal.specs.Gates.{HasGate}
use Rattle.cov_journal.proofs.Anew.{appended_gate}
use Rattle.cov_disk.proofs.CallerLemmas.{joined, weakened}
use Rattle.cov_journal.proofs.Moments.{told_after, all_after}
use Rattle.cov_journal.proofs.Pinning.{told_record, outside_first, outside_both}
use Rattle.cov_journal.proofs.Records.{fits_push}
use Rattle.cov_journal.proofs.Appending.{IsStaged, torn_behind, staged_behind, torn_gate, written_gate}
use Rattle.cov_journal.proofs.journal.Journal.extend.Goals as goal

pub returns-in_err-stage-clause-any_moment : goal.returns-in_err-stage-clause-any_moment
returns-in_err-stage-clause-any_moment g c payloads fits all =
    let at = c.self.inside.at in
    let inside : Fits at c.self.inside.digest payloads = subst (λ (s : State). FitsState s payloads) (sym c.self.view_is) fits in
    weakened g.D.Disk.moment g.D.Disk.images_since c.args.disk.now c.stage.new.disk _ _
    (λ f from. inl (torn_behind at _ payloads inside _ from.0 f (all from.0 from.1) from.2)) c.stage.ensures.since

pub returns-in_err-stage-clause-fits : goal.returns-in_err-stage-clause-fits
returns-in_err-stage-clause-fits g c payloads fits =
    let at = c.self.inside.at in
    let inside : Fits at c.self.inside.digest payloads = subst (λ (s : State). FitsState s payloads) (sym c.self.view_is) fits in
    subst (λ d. Fits (at + length c.args.payload.now + 37) d (payloads ++ c.args.payload.now ∷ [])) (sym c.next_digest-digest.ensures) (fits_push at c.self.inside.digest payloads c.args.payload.now inside)

pub returns-in_err-open_gate-clause-fits : goal.returns-in_err-open_gate-clause-fits
returns-in_err-open_gate-clause-fits g c payloads fits =
    let at = c.self.inside.at in
    let inside : Fits at c.self.inside.digest payloads = subst (λ (s : State). FitsState s payloads) (sym c.self.view_is) fits in
    subst (λ d. Fits (at + length c.args.payload.now + 37) d (payloads ++ c.args.payload.now ∷ [])) (sym c.next_digest-digest.ensures) (fits_push at c.self.inside.digest payloads c.args.payload.now inside)

pub returns-clause-fits : goal.returns-clause-fits
returns-clause-fits g c payloads fits =
    let at = c.self.inside.at in
    let inside : Fits at c.self.inside.digest payloads = subst (λ (s : State). FitsState s payloads) (sym c.self.view_is) fits in
    subst (λ d. Fits (at + length c.args.payload.now + 37) d (payloads ++ c.args.payload.now ∷ [])) (sym c.next_digest-digest.ensures) (fits_push at c.self.inside.digest payloads c.args.payload.now inside)

pub returns-in_err-open_gate-clause-any_moment : goal.returns-in_err-open_gate-clause-any_moment
returns-in_err-open_gate-clause-any_moment g c payloads fits all =
    let at = c.self.inside.at in
    let p = c.args.payload.now in
    let inside : Fits at c.self.inside.digest payloads = subst (λ (s : State). FitsState s payloads) (sym c.self.view_is) fits in
    let is : c.as_slice.result.now ≡ body (next_digest c.self.inside.digest p) p ++ 0 ∷ [] = c.as_slice.ensures.value ∙ c.fill.ensures.items ∙ ap (λ d. body d p ++ 0 ∷ []) c.next_digest-digest.ensures in
    let staged : (f : List ℕ) → g.D.Disk.images c.stage.new.disk f → IsStaged payloads p f = all_after g.D.Disk.contents g.D.Disk.images g.met.D.Disk.as_read g.met.D.Disk.told
    (Written (at + 1) c.as_slice.result.now) (λ f. IsWritten f payloads) (λ f. IsStaged payloads p f) (λ d f w written. staged_behind at c.self.inside.digest payloads inside p c.as_slice.result.now d f is w written)
    c.args.disk.now c.stage.new.disk all c.in_ok-stage.ensures.written c.in_ok-stage.ensures.durable in
    let P : List ℕ → Type 0 = λ f. IsWritten f payloads ⊎ IsWritten f (payloads ++ p ∷ []) in
    joined g.D.Disk.moment g.D.Disk.images_since c.args.disk.now c.stage.new.disk c.open_gate.new.disk P
    (weakened g.D.Disk.moment g.D.Disk.images_since c.args.disk.now c.stage.new.disk _ P (λ f from. inl (torn_behind at c.self.inside.digest payloads inside _ from.0 f (all from.0 from.1) from.2)) c.stage.ensures.since)
    (weakened g.D.Disk.moment g.D.Disk.images_since c.stage.new.disk c.open_gate.new.disk _ P (λ f from. torn_gate at c.self.inside.digest payloads inside p from.0 f (staged from.0 from.1) from.2) c.open_gate.ensures.since)

pub returns-clause-any_moment : goal.returns-clause-any_moment
returns-clause-any_moment g c payloads fits all =
    let at = c.self.inside.at in
    let p = c.args.payload.now in
    let inside : Fits at c.self.inside.digest payloads = subst (λ (s : State). FitsState s payloads) (sym c.self.view_is) fits in
    let is : c.as_slice.result.now ≡ body (next_digest c.self.inside.digest p) p ++ 0 ∷ [] = c.as_slice.ensures.value ∙ c.fill.ensures.items ∙ ap (λ d. body d p ++ 0 ∷ []) c.next_digest-digest.ensures in
    let staged : (f : List ℕ) → g.D.Disk.images c.stage.new.disk f → IsStaged payloads p f = all_after g.D.Disk.contents g.D.Disk.images g.met.D.Disk.as_read g.met.D.Disk.told
    (Written (at + 1) c.as_slice.result.now) (λ f. IsWritten f payloads) (λ f. IsStaged payloads p f) (λ d f w written. staged_behind at c.self.inside.digest payloads inside p c.as_slice.result.now d f is w written)
    c.args.disk.now c.stage.new.disk all c.in_ok-stage.ensures.written c.in_ok-stage.ensures.durable in
    let P : List ℕ → Type 0 = λ f. IsWritten f payloads ⊎ IsWritten f (payloads ++ p ∷ []) in
    joined g.D.Disk.moment g.D.Disk.images_since c.args.disk.now c.stage.new.disk c.open_gate.new.disk P
    (weakened g.D.Disk.moment g.D.Disk.images_since c.args.disk.now c.stage.new.disk _ P (λ f from. inl (torn_behind at c.self.inside.digest payloads inside _ from.0 f (all from.0 from.1) from.2)) c.stage.ensures.since)
    (weakened g.D.Disk.moment g.D.Disk.images_since c.stage.new.disk c.open_gate.new.disk _ P (λ f from. torn_gate at c.self.inside.digest payloads inside p from.0 f (staged from.0 from.1) from.2) c.open_gate.ensures.since)

pub returns-clause-stored : goal.returns-clause-stored
returns-clause-stored g c payloads fits all =
    let at = c.self.inside.at in
    let p = c.args.payload.now in
    let inside : Fits at c.self.inside.digest payloads = subst (λ (s : State). FitsState s payloads) (sym c.self.view_is) fits in
    let is : c.as_slice.result.now ≡ body (next_digest c.self.inside.digest p) p ++ 0 ∷ [] = c.as_slice.ensures.value ∙ c.fill.ensures.items ∙ ap (λ d. body d p ++ 0 ∷ []) c.next_digest-digest.ensures in
    let staged : (f : List ℕ) → g.D.Disk.images c.stage.new.disk f → IsStaged payloads p f = all_after g.D.Disk.contents g.D.Disk.images g.met.D.Disk.as_read g.met.D.Disk.told
    (Written (at + 1) c.as_slice.result.now) (λ f. IsWritten f payloads) (λ f. IsStaged payloads p f) (λ d f w written. staged_behind at c.self.inside.digest payloads inside p c.as_slice.result.now d f is w written)
    c.args.disk.now c.stage.new.disk all c.in_ok-stage.ensures.written c.in_ok-stage.ensures.durable in
    all_after g.D.Disk.contents g.D.Disk.images g.met.D.Disk.as_read g.met.D.Disk.told
    (Written at (1 ∷ [])) (λ f. IsStaged payloads p f) (λ f. IsWritten f (payloads ++ p ∷ [])) (λ d f s written. written_gate at c.self.inside.digest payloads inside p d f s written)
    c.stage.new.disk c.open_gate.new.disk staged c.in_ok-open_gate.ensures.written c.in_ok-open_gate.ensures.durable

pub returns-clause-written : goal.returns-clause-written
returns-clause-written g c payloads fits holds =
    let at = c.self.inside.at in
    let p = c.args.payload.now in
    let inside : Fits at c.self.inside.digest payloads = subst (λ (s : State). FitsState s payloads) (sym c.self.view_is) fits in
    let is : c.as_slice.result.now ≡ body (next_digest c.self.inside.digest p) p ++ 0 ∷ [] = c.as_slice.ensures.value ∙ c.fill.ensures.items ∙ ap (λ d. body d p ++ 0 ∷ []) c.next_digest-digest.ensures in
    let staged = told_after (Written (at + 1) c.as_slice.result.now) (λ f. IsWritten f payloads) (λ f. IsStaged payloads p f) (λ d f w written. staged_behind at c.self.inside.digest payloads inside p c.as_slice.result.now d f is w written)
    (g.D.Disk.contents c.args.disk.now) (g.D.Disk.contents c.stage.new.disk) c.in_ok-stage.ensures.written holds in
    told_after (Written at (1 ∷ [])) (λ f. IsStaged payloads p f) (λ f. IsWritten f (payloads ++ p ∷ [])) (λ d f s written. written_gate at c.self.inside.digest payloads inside p d f s written)
    (g.D.Disk.contents c.stage.new.disk) (g.D.Disk.contents c.open_gate.new.disk) c.in_ok-open_gate.ensures.written staged

pub returns-clause-gate : goal.returns-clause-gate
returns-clause-gate g c =
    let at = c.self.inside.at in
    let gate : HasGate (g.D.Disk.contents c.args.disk.now) at = subst (λ (s : State). HasGate (g.D.Disk.contents c.args.disk.now) s.at) (sym c.self.view_is) c.requires.gate in
    let size : length c.as_slice.result.now ≡ length c.args.payload.now + 37 = ap length c.as_slice.ensures.value ∙ c.fill.ensures.length in
    appended_gate at (length c.args.payload.now) c.as_slice.result.now (g.D.Disk.contents c.args.disk.now) (g.D.Disk.contents c.stage.new.disk) (g.D.Disk.contents c.open_gate.new.disk)
    size gate c.in_ok-stage.ensures.written c.in_ok-open_gate.ensures.written

pub returns-clause-pinned : goal.returns-clause-pinned
returns-clause-pinned g c =
    let at = c.self.inside.at in
    let p = c.args.payload.now in
    let o = g.D.Disk.contents c.args.disk.now in
    let n = g.D.Disk.contents c.open_gate.new.disk in
    let gate : HasGate o at = subst (λ (s : State). HasGate o s.at) (sym c.self.view_is) c.requires.gate in
    let is : c.as_slice.result.now ≡ body (next_digest c.self.inside.digest p) p ++ 0 ∷ [] = c.as_slice.ensures.value ∙ c.fill.ensures.items ∙ ap (λ d. body d p ++ 0 ∷ []) c.next_digest-digest.ensures in
    subst (λ (s : State). Told (AppendsRecord s p) o n) c.self.view_is
    (told_record at c.as_slice.result.now (body (next_digest c.self.inside.digest p) p ++ 0 ∷ []) o (g.D.Disk.contents c.stage.new.disk) n is gate c.in_ok-stage.ensures.written c.in_ok-open_gate.ensures.written)

pub returns-in_err-stage-clause-outside : goal.returns-in_err-stage-clause-outside
returns-in_err-stage-clause-outside g c =
    let at = c.self.inside.at in
    let n = length c.args.payload.now + 38 in
    let size : length c.as_slice.result.now ≡ length c.args.payload.now + 37 = ap length c.as_slice.ensures.value ∙ c.fill.ensures.length in
    let more : length c.as_slice.result.now + 1 ≡ n = omega (arith, size) in
    subst (λ (s : State). LeavesOnly g.D.Disk.moment g.D.Disk.images_since c.args.disk.now c.stage.new.disk (IsTornFrom (g.D.Disk.images c.args.disk.now) s.at n)) c.self.view_is
    (outside_first g.D.Disk.moment g.D.Disk.images_since g.D.Disk.images g.met.D.Disk.counts_now at (length c.as_slice.result.now) (length c.args.payload.now + 38) more c.args.disk.now c.stage.new.disk c.stage.ensures.since)

pub returns-in_err-open_gate-clause-outside : goal.returns-in_err-open_gate-clause-outside
returns-in_err-open_gate-clause-outside g c =
    let at = c.self.inside.at in
    let n = length c.args.payload.now + 38 in
    let size : length c.as_slice.result.now ≡ length c.args.payload.now + 37 = ap length c.as_slice.ensures.value ∙ c.fill.ensures.length in
    let more : length c.as_slice.result.now + 1 ≡ n = omega (arith, size) in
    subst (λ (s : State). LeavesOnly g.D.Disk.moment g.D.Disk.images_since c.args.disk.now c.open_gate.new.disk (IsTornFrom (g.D.Disk.images c.args.disk.now) s.at n)) c.self.view_is
    (outside_both g.D.Disk.moment g.D.Disk.images_since g.D.Disk.images g.met.D.Disk.counts_now at (length c.as_slice.result.now) (length c.args.payload.now + 38) more c.args.disk.now c.stage.new.disk c.open_gate.new.disk c.stage.ensures.since c.open_gate.ensures.since)

pub returns-clause-outside : goal.returns-clause-outside
returns-clause-outside g c =
    let at = c.self.inside.at in
    let n = length c.args.payload.now + 38 in
    let size : length c.as_slice.result.now ≡ length c.args.payload.now + 37 = ap length c.as_slice.ensures.value ∙ c.fill.ensures.length in
    let more : length c.as_slice.result.now + 1 ≡ n = omega (arith, size) in
    subst (λ (s : State). LeavesOnly g.D.Disk.moment g.D.Disk.images_since c.args.disk.now c.open_gate.new.disk (IsTornFrom (g.D.Disk.images c.args.disk.now) s.at n)) c.self.view_is
    (outside_both g.D.Disk.moment g.D.Disk.images_since g.D.Disk.images g.met.D.Disk.counts_now at (length c.as_slice.result.now) (length c.args.payload.now + 38) more c.args.disk.now c.stage.new.disk c.open_gate.new.disk c.stage.ensures.since c.open_gate.ensures.since)
