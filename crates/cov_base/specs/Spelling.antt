-- The spellings of names and texts.
use Rattle.std.specs.Prelude.{ℕ, Bool, false, ◌&&◌, ◌||◌, not, nat_eq, nat_lt, nat_le, List, [], ◌∷◌, length, Option, Some, None, if◌then◌else◌, codes}
use Rattle.std.specs.Str.{bytes_eq, is_utf8}
use Rattle.std.specs.List.{list_any, list_all, slice_split}
use Rattle.cov_base.specs.Bytes.{is_letter, is_digit}
use Rattle.cov_base.specs.declared.limits.TheConstants.{MOST_NAME_BYTES, MOST_OPTION_NAME_BYTES, MOST_TEXT_BYTES}

-- a letter or _, and then letters, digits and _
abbrev pub is_word : List ℕ → Bool
is_word [] = false
is_word (b ∷ bs) = is_letter b && list_all (λ c. is_letter c || is_digit c) bs

-- the words that no option may have as its name
abbrev pub reserved_words : List (List ℕ)
reserved_words = codes "true" ∷ codes "false" ∷ codes "on" ∷ codes "off" ∷ codes "for" ∷ []

-- a word that isn't reserved and has no more bytes than an option's name may have
abbrev pub is_option_name : List ℕ → Bool
is_option_name bytes = is_word bytes && (nat_le (length bytes) MOST_OPTION_NAME_BYTES && not (list_any (bytes_eq bytes) reserved_words))

-- a control character, a space or a slash, none of which a name has
abbrev pub is_outside_names : ℕ → Bool
is_outside_names b = nat_lt b 33 || (nat_eq b 127 || nat_eq b 47)

-- the names that every directory keeps for itself and its parent
abbrev pub dot_names : List (List ℕ)
dot_names = codes "." ∷ codes ".." ∷ []

-- one byte or more of UTF-8, within the limit, without control characters, spaces and slashes, and neither . nor ..
abbrev pub is_name : List ℕ → Bool
is_name bytes =
    (nat_le 1 (length bytes) && nat_le (length bytes) MOST_NAME_BYTES)
    && (is_utf8 bytes && (not (list_any is_outside_names bytes) && not (list_any (bytes_eq bytes) dot_names)))

-- the parts of bytes between slashes
abbrev pub parts_of : List ℕ → List (List ℕ)
parts_of bytes = slice_split (λ b. nat_eq b 47) bytes

-- the names, if all of them are spelt as names
abbrev pub if_names : List (List ℕ) → Option (List (List ℕ))
if_names names = if list_all is_name names then Some names else None

-- the path whose parts between slashes are these
abbrev pub path_from : List (List ℕ) → Option (List (List ℕ))
path_from ([] ∷ [] ∷ []) = Some []
path_from ([] ∷ name ∷ names) = if_names (name ∷ names)
path_from _ = None

-- the path that bytes spell: none for a slash alone, and else one or more of a slash and a name
abbrev pub path_of : List ℕ → Option (List (List ℕ))
path_of bytes = path_from (parts_of bytes)

-- whether bytes can be the text of a line: within the limit, and no end of a line
abbrev pub is_line_text : List ℕ → Bool
is_line_text bytes = nat_le (length bytes) MOST_TEXT_BYTES && not (list_any (λ b. nat_eq b 10) bytes)
