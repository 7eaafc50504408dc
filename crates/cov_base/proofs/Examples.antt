-- Worked cases of names, paths, addresses and faults of rows.
use Rattle.std.proofs.Common.{◌≡◌, ℕ, true, false, [], ◌∷◌, map, Some, None, refl}
use Rattle.std.specs.Prelude.{codes}
use Rattle.std.specs.Str.{is_utf8, chars}
use lib.Utf8.{encode}
use Rattle.cov_base.specs.Spelling.{is_name, path_of}
use Rattle.cov_base.specs.Rows.{Row}
use Rattle.cov_base.specs.Reaching.{has_clash, has_lost}
use Rattle.cov_base.specs.declared.number.Kind.TheVariants as kinds
use Rattle.cov_base.specs.Addresses.{address_in, with_lines, placed, after_anchor}
use Rattle.cov_base.specs.Limits.{limits_when}
use Rattle.cov_base.specs.declared.limits.TheConstants.{LIMITS, UPGRADED_LIMITS, MOST_SCRIPT_LINE_BYTES, MOST_TEXT_BYTES, MOST_NAME_BYTES, MOST_OPTION_NAME_BYTES, MOST_TOKENS, TOO_MANY_SCRIPT_BYTES, CHOICE_WIDTH}

-- a name may have an accent and three dots, and no cut character, no space and not one dot alone
names : map is_name (codes "main.c" ∷ (195 ∷ 169 ∷ []) ∷ codes "..." ∷ (195 ∷ []) ∷ codes "a b" ∷ codes "." ∷ [])
    ≡ true ∷ true ∷ true ∷ false ∷ false ∷ false ∷ []
unfolding is_utf8 chars encode
names = refl

-- a path begins with a slash, and ends with none but the root's
paths : map path_of (codes "/" ∷ codes "/a/b" ∷ codes "/a/" ∷ codes "a" ∷ [] ∷ [])
    ≡ Some [] ∷ Some (codes "a" ∷ codes "b" ∷ []) ∷ None ∷ None ∷ None ∷ []
unfolding is_utf8 chars encode
paths = refl

-- lines 2 and 4 are inserted after line 1, and line 3 after line 2
newest_first : (let table = with_lines [] (0 ∷ 1 ∷ 2 ∷ 1 ∷ []) in
    placed (address_in table) 4 (placed (address_in table) 3 (placed (address_in table) 2 (placed (address_in table) 1 [])))) ≡ 1 ∷ 4 ∷ 2 ∷ 3 ∷ []
newest_first = refl

after_anchors : after_anchor 1 4 (after_anchor 2 3 (after_anchor 1 2 (after_anchor 0 1 []))) ≡ 1 ∷ 4 ∷ 2 ∷ 3 ∷ []
after_anchors = refl

-- a directory in another, with the name m
abbrev dir : ℕ → ℕ → Row
dir node parent = record { node = node; kind = kinds.Dir; parent = parent; name = 109 ∷ [] }

-- two rows clash that have one parent and one name
clashes : map has_clash ((dir 1 0 ∷ dir 2 1 ∷ dir 3 0 ∷ []) ∷ (dir 1 0 ∷ dir 2 1 ∷ []) ∷ []) ≡ true ∷ false ∷ []
clashes = refl

-- a row may stand before its parent's, and is lost without it or in a loop
lost : map has_lost ((dir 2 1 ∷ dir 1 0 ∷ []) ∷ (dir 1 0 ∷ dir 3 2 ∷ []) ∷ (dir 1 2 ∷ dir 2 1 ∷ []) ∷ []) ≡ false ∷ true ∷ true ∷ []
lost = refl

-- the limits of a history before an upgrade and after it, and that those are these by whether there is one
limits : LIMITS ≡ record { options = 64; rules = 256; commands = 1048576; edits = 16384; commit_bytes = 16777216; lines = 1048576; nodes = 65536; bytes = 1073741824 }
limits = refl

upgraded_limits : UPGRADED_LIMITS ≡ record { options = 128; rules = 1024; commands = 1048576; edits = 16384; commit_bytes = 16777216; lines = 16777216; nodes = 1048576; bytes = 1073741824 }
upgraded_limits = refl

limits_by_upgrade : map limits_when (false ∷ true ∷ []) ≡ LIMITS ∷ UPGRADED_LIMITS ∷ []
limits_by_upgrade = refl

-- the limits of spelling, of what is read, and of a choice
spelling_limits : (MOST_SCRIPT_LINE_BYTES ∷ MOST_TEXT_BYTES ∷ MOST_NAME_BYTES ∷ MOST_OPTION_NAME_BYTES ∷ MOST_TOKENS ∷ TOO_MANY_SCRIPT_BYTES ∷ CHOICE_WIDTH ∷ [])
    ≡ 8192 ∷ 4096 ∷ 255 ∷ 64 ∷ 256 ∷ 4294967296 ∷ 128 ∷ []
spelling_limits = refl
