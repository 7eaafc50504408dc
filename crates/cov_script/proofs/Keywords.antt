-- A line that begins with a keyword is read by what its form wants.
use Rattle.std.proofs.Common.{◌≡◌, ℕ, true, List, ◌++◌, length, Some, refl, ap, ◌∙◌}
use Rattle.std.specs.List.{list_all, prefix_len}
use Rattle.cov_script.specs.Fields.{behind_field}
use Rattle.cov_script.specs.Kinds.{word_for}
use Rattle.cov_script.specs.Lines.{form_of, spoken, if_keyword, keyword_of, line_behind}
use Rattle.cov_script.specs.declared.keyword.Keyword.{Keyword}
use Rattle.cov_script.specs.declared.keyword.Keyword.TheVariants as keywords
use Rattle.cov_script.proofs.Spelling.{is_other, first, later}

-- what holds of the word of each keyword, and of what follows it
record IsWord (k : Keyword) : Type 0 where
  pub spaceless : list_all is_other (word_for k) ≡ true
  pub found : keyword_of (word_for k) ≡ Some k
  pub speaks : (tail : List ℕ) → form_of (word_for k ++ tail) ≡ spoken (word_for k ++ tail)

is_word : (k : Keyword) → IsWord k
is_word keywords.Option = record { spaceless = refl; found = refl; speaks = λ tail. refl }
is_word k = record { spaceless = refl; found = refl; speaks = λ tail. refl }

pub word_found : (k : Keyword) → keyword_of (word_for k) ≡ Some k
word_found k = (is_word k).found

-- a keyword, and nothing or a space behind it
pub keyword_read : (k : Keyword) (tail : List ℕ) → prefix_len is_other tail ≡ 0 → form_of (word_for k ++ tail) ≡ line_behind k (length (word_for k ++ tail), tail)
keyword_read k tail none =
    let word = is_word k in
    let size = length (word_for k ++ tail) in
    word.speaks tail
    ∙ ap (λ o. if_keyword o (size, behind_field (word_for k ++ tail))) (ap keyword_of (first (word_for k) tail word.spaceless none) ∙ word.found)
    ∙ ap (λ bs. line_behind k (size, bs)) (later (word_for k) tail word.spaceless none)
