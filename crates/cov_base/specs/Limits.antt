-- How much histories hold.
use Rattle.std.specs.Prelude.{Bool, if◌then◌else◌}
use Rattle.cov_base.specs.declared.limits.Limits.{Limits}
use Rattle.cov_base.specs.declared.limits.TheConstants.{LIMITS, UPGRADED_LIMITS}

-- the limits of a history, by whether it has an upgrade, which raises those of options, rules, lines and nodes
abbrev pub limits_when : Bool → Limits
limits_when upgraded = record {
  options = if upgraded then UPGRADED_LIMITS.options else LIMITS.options;
  rules = if upgraded then UPGRADED_LIMITS.rules else LIMITS.rules;
  commands = LIMITS.commands;
  edits = LIMITS.edits;
  commit_bytes = LIMITS.commit_bytes;
  lines = if upgraded then UPGRADED_LIMITS.lines else LIMITS.lines;
  nodes = if upgraded then UPGRADED_LIMITS.nodes else LIMITS.nodes;
  bytes = LIMITS.bytes;
}
