-- Runs as they are kept.
use Rattle.std.specs.Prelude.{ℕ, List}
use Rattle.cov_cond_text.specs.declared.run.Run.{Run}

-- runs, and behind how many directives the next one stands at least
pub record RunList : Type 0 where
  pub runs : List Run
  pub next : ℕ
