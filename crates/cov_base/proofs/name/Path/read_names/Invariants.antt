use Rattle.std.proofs.Common.{◌≡◌, ◌++◌, ◌+◌, [], length, true}
use Rattle.std.specs.Option.{option_map_or}
use Rattle.std.specs.List.{list_all}
use Rattle.cov_base.specs.Spelling.{is_name, parts_of}
use Rattle.cov_base.proofs.name.Path.read_names.Given as goal

abbrev pub invariant-names : goal.invariant-names
invariant-names l = record {
  whole : l.path ++ option_map_or (λ rest. parts_of rest.now) l.rest [] ≡ parts_of l.bytes;
  spelling : list_all is_name l.path ≡ true;
}

abbrev pub decreases-names : goal.decreases-names
decreases-names l = option_map_or (λ rest. length rest.now + 1) l.rest 0
