-- Lines with the places at which they are mistaken.
use Rattle.std.proofs.Common.{◌≡◌, ℕ, ◌+◌, List, [], ◌∷◌, ◌++◌, length, replicate, Some, None, refl, ap, sym, ◌∙◌, inl, inr, arith}
use Rattle.std.specs.Prelude.{codes}
use Rattle.std.specs.Str.{is_utf8, chars}
use Rattle.std.proofs.lemmas.List.{append-nil}
use lib.Utf8.{encode}
use Rattle.cov_script.specs.Kinds.{Kind, Token, Name, Path, Choice, For, EditLine, Expression, Text, field_ahead, word_for, kinds_behind}
use Rattle.cov_script.specs.Lines.{keyword_of}
use Rattle.cov_script.specs.Mistakes.{IsRight, IsWrong, IsMistaken, IsTooLong}
use Rattle.cov_script.specs.declared.keyword.Keyword.{Keyword}
use Rattle.cov_script.specs.declared.keyword.Keyword.TheVariants as keywords
use Rattle.cov_script.proofs.Keywords.{word_found}
use Rattle.cov_script.proofs.Mistaken.{not_silent}

-- option TOKEN, with more behind the token: at the space behind it
more : IsMistaken (codes "option a b") 8
more =
    let token : IsRight Token (codes "a") = record { ends = refl; spaceless = refl; of_kind = refl } in
    inr (inr (inr (record { keyword = keywords.Option; front = codes "option a"; right = (codes " a", refl, (codes "a", [], refl, token, refl)); more = codes "b"; all = refl; place = refl })))

-- a line whose first field isn't of its kind
first_wrong : (keyword : Keyword) (kind : Kind) (later : List Kind) (ahead : List ℕ) (within : ℕ) → kinds_behind keyword ≡ kind ∷ later → IsWrong kind (field_ahead kind ahead) within
    → IsMistaken (word_for keyword ++ 32 ∷ ahead) (length (word_for keyword) + 1 + within)
first_wrong keyword kind later ahead within wanted wrong = inr (inl (record {
  kind = kind;
  ahead = ahead;
  comes = record { keyword = keyword; before = []; wanted = (later, wanted); front = word_for keyword; right = ([], sym (append-nil (word_for keyword)), refl); all = refl };
  within = within;
  wrong = wrong;
  place = refl;
}))

-- no token, behind a space and before one: an empty field is not of its kind
empty : IsMistaken (codes "option  a") 7
empty = first_wrong keywords.Option Token [] (codes " a") 0 refl (refl, refl)

-- no expression: at the line's length
lacking : IsMistaken (codes "constraint") 10
lacking =
    inr (inr (inl (record { keyword = keywords.Constraint; before = []; kind = Expression; wanted = ([], refl); needed = λ e. let wrong = e in cc; right = ([], refl, refl); place = refl })))

-- a byte that begins no token, behind the keyword and a space at 11: at its place within the expression behind that
no_token : IsMistaken (codes "constraint a $") 13
no_token = first_wrong keywords.Constraint Expression [] (codes "a $") 2 refl refl

-- the third field is not the word for, and what follows it isn't looked at
third : IsMistaken (codes "open s - fro $") 9
unfolding is_utf8 chars encode
third =
    let name : IsRight Name (codes "s") = record { ends = refl; spaceless = refl; of_kind = refl } in
    let choice : IsRight Choice (codes "-") = record { ends = refl; spaceless = refl; of_kind = refl } in
    inr (inl (record {
      kind = For;
      ahead = codes "fro $";
      comes = record {
        keyword = keywords.Open;
        before = Name ∷ Choice ∷ [];
        wanted = (Expression ∷ [], refl);
        front = codes "open s -";
        right = (codes " s -", refl, (codes "s", codes " -", refl, name, (codes "-", [], refl, choice, refl)));
        all = refl;
      };
      within = 0;
      wrong = (refl, refl);
      place = refl;
    }))

-- a text of 4,097 bytes: at its first byte
long_text : IsMistaken (codes "insert s / 0 " ++ replicate 4097 120) 13
unfolding is_utf8 chars encode
long_text =
    let name : IsRight Name (codes "s") = record { ends = refl; spaceless = refl; of_kind = refl } in
    let path : IsRight Path (codes "/") = record { ends = refl; spaceless = refl; of_kind = refl } in
    let number : IsRight EditLine (codes "0") = record { ends = refl; spaceless = refl; of_kind = refl } in
    inr (inl (record {
      kind = Text;
      ahead = replicate 4097 120;
      comes = record {
        keyword = keywords.Insert;
        before = Name ∷ Path ∷ EditLine ∷ [];
        wanted = ([], refl);
        front = codes "insert s / 0";
        right = (codes " s / 0", refl, (codes "s", codes " / 0", refl, name, (codes "/", codes " 0", refl, path, (codes "0", [], refl, number, refl))));
        all = refl;
      };
      within = 0;
      wrong = (refl, refl);
      place = refl;
    }))

-- an empty field in the place of the keyword is an unknown one
unknown : IsMistaken (codes " option a") 0
unknown = inl (record { speaks = not_silent 32 (codes "option a") refl; unknown = none; place = refl })
  where
    none : (keyword : Keyword) → word_for keyword ≡ [] → ⊥
    none keyword e = let found : Some keyword ≡ None = sym (word_found keyword) ∙ ap keyword_of e in cc

-- 256 tokens are an expression, 257 are too many
too_long : IsTooLong (codes "prefer " ++ replicate 256 33 ++ codes "a")
too_long = record {
  ahead = replicate 256 33 ++ codes "a";
  comes = record { keyword = keywords.Prefer; before = []; wanted = ([], refl); front = codes "prefer"; right = ([], refl, refl); all = refl };
  long = omega arith;
}
