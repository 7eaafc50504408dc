-- References to what was made before a session, and in it.
use Rattle.std.proofs.Common.{◌≡◌, ◌∙◌, ap, ℕ, ◌+◌, ◌-◌, ◌<◌, true, false, cond, nat_le, arith}
use Rattle.std.proofs.lemmas.Bool.Decides.{nat_tests}
use Rattle.cov_base.specs.declared.number.LineRef.{LineRef}
use Rattle.cov_base.specs.declared.number.LineRef.TheVariants as lines
use Rattle.cov_base.specs.declared.number.NodeRef.{NodeRef}
use Rattle.cov_base.specs.declared.number.NodeRef.TheVariants as nodes
use Rattle.cov_edit.specs.Numbering.{line_number, node_number}
use Rattle.cov_view.specs.References.{is_made_line, is_made_node}
use Rattle.cov_lines.specs.Editing.{line_seen, node_ref}

module _ {R : Type 0} (old new : ℕ → R) (n : ℕ) where
  -- the number of what was made before gives its reference again
  old-again : (x : ℕ) → nat_le x n ≡ true → cond (nat_le x n) (old x) (new (x - n - 1)) ≡ old x
  old-again x known = ap (λ b. cond b (old x) (new (x - n - 1))) known

  -- and so does the number of what was made in the session
  new-again : (i : ℕ) → cond (nat_le (n + 1 + i) n) (old (n + 1 + i)) (new (n + 1 + i - n - 1)) ≡ new i
  new-again i =
      ap (λ b. cond b (old (n + 1 + i)) (new (n + 1 + i - n - 1))) (later (n + 1 + i) (omega arith)) ∙ ap new (let same : n + 1 + i - n - 1 ≡ i = omega arith in same)
    where
      later : (x : ℕ) → n < x → nat_le x n ≡ false
      later x h = grind (arith, nat_tests, h)

-- the number of a made node gives its reference again
pub made_node-again : (n made : ℕ) (node : NodeRef) → is_made_node n made node ≡ true → node_ref n (node_number n node) ≡ node
made_node-again n made (nodes.Old x) h = old-again (λ k. nodes.Old k) (λ k. nodes.New k) n x h
made_node-again n made (nodes.New i) h = new-again (λ k. nodes.Old k) (λ k. nodes.New k) n i

-- the number of a made line gives its reference again
pub made_line-again : (n made : ℕ) (line : LineRef) → is_made_line n made line ≡ true → line_seen n (line_number n line) ≡ line
made_line-again n made (lines.Old x) h = old-again (λ k. lines.Old k) (λ k. lines.New k) n x h
made_line-again n made (lines.New i) h = new-again (λ k. lines.Old k) (λ k. lines.New k) n i
