-- A listing as it is told, entry by entry.
use Rattle.std.proofs.Common.{◌≡◌, ◌∙◌, ap, sym, ℕ, ◌+◌, ◌<◌, true, false, Ok, Err, nat_lt, List, [], ◌∷◌, ◌++◌, append_assoc, length, arith}
use Rattle.std.proofs.lemmas.Bool.{and_parts}
use Rattle.std.proofs.lemmas.Bool.Decides.{nat_tests}
use Rattle.std.specs.List.{list_all}
use Rattle.std.specs.Prelude.{if◌then◌else◌}
use Rattle.cov_edit.specs.History.{options_of}
use Rattle.cov_vis.specs.Listings.{ListingValue}
use Rattle.cov_vis.specs.declared.listing.ListingEntry.{ListingEntry}
use Rattle.cov_engine.specs.Visibility.{is_no_line, presence_of}
use Rattle.cov_script.specs.declared.code.Code.TheVariants.{NoSuchLine}
use Rattle.cov_lines.specs.Finding.{◌>>=◌}
use Rattle.cov_lines.specs.Replies.{entry_line, entry_lines, presence_reply}
use Rattle.cov_lines.specs.States.{State}
use Rattle.cov_lines.specs.Step.{presence_told}

module _ (names : List (List ℕ)) where
  -- an entry more was told
  pub entry-next : (i k : ℕ) (e : ListingEntry) (es : List ListingEntry) (lines longer all : List (List ℕ)) → k ≡ i + 1 → longer ≡ lines ++ entry_line names i e ∷ []
      → lines ++ entry_lines names i (e ∷ es) ≡ all → longer ++ entry_lines names k es ≡ all
  entry-next i k e es lines longer all next more h =
      ap (λ ls. ls ++ entry_lines names k es) more ∙ append_assoc lines (entry_line names i e ∷ []) (entry_lines names k es)
      ∙ ap (λ n. lines ++ entry_line names i e ∷ entry_lines names n es) next ∙ h

  -- the first of entries with options below a count has its option below, and so have the others
  pub first-below : (e : ListingEntry) (es : List ListingEntry) → list_all (λ f. nat_lt f.option (length names)) (e ∷ es) ≡ true
      → (e.option < length names) × (list_all (λ f. nat_lt f.option (length names)) es ≡ true)
  first-below e es h =
      let parts = and_parts (nat_lt e.option (length names)) (list_all (λ f. nat_lt f.option (length names)) es) h in
      let own = parts.0 in
      (grind (arith, nat_tests, own), parts.1)

-- a line that is there is told by its listing
pub presence-is : (st : State) (line : ℕ) (names : List (List ℕ)) (l : ListingValue) (text : List ℕ) → is_no_line st.history line ≡ false → l ≡ presence_of st.history line
    → names ≡ options_of st.history → text ≡ presence_reply names l → presence_told st line ≡ Ok (st, text)
unfolding presence_told
presence-is st line names l text there listing named is =
    ap (λ b. (if b then Err NoSuchLine else Ok line) >>= (λ x. Ok (st, presence_reply (options_of st.history) (presence_of st.history x)))) there
    ∙ ap (λ t. Ok (st, t)) (sym (is ∙ ap (λ ns. presence_reply ns l) named ∙ ap (presence_reply (options_of st.history)) listing))
