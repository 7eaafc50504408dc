-- Files and directories that are told.
use Rattle.std.proofs.Common.{◌≡◌, ℕ, Bool, true, false, ◌&&◌, not, List, map, length, take, Ok, Err, sym, ap, subst, ◌∙◌, refl}
use Rattle.std.proofs.lemmas.Bool.{and_parts}
use Rattle.std.specs.Prelude.{IsErrOf, ok_or, if◌then◌else◌}
use Rattle.cov_base.specs.declared.number.NodeRef.{NodeRef}
use Rattle.cov_edit.specs.Numbering.{Numbers, node_number, numbers_of}
use Rattle.cov_edit.specs.Variant.{Variant, lines_of}
use Rattle.cov_view.specs.Paths.{AreLinesOf}
use Rattle.cov_view.specs.Refusals.{is_dir}
use Rattle.cov_view.specs.Seen.{Seen}
use Rattle.cov_view.specs.Views.{Shows, by_number}
use Rattle.cov_view.specs.declared.line.ViewLine.{ViewLine}
use Rattle.cov_history.specs.Sessions.{Session, seen}
use Rattle.cov_view.specs.Refusals.{shows_node}
use Rattle.cov_view.specs.Listing.{IsListingOf, listed}
use Rattle.cov_view.specs.declared.listing.DirRow.{DirRow}
use Rattle.cov_view.specs.declared.fault.ListFault.{ListFault}
use Rattle.cov_view.specs.declared.fault.ListFault.TheVariants as lists
use Rattle.cov_view.specs.declared.fault.ReadFaultOfView.{ReadFaultOfView}
use Rattle.cov_view.specs.declared.fault.ReadFaultOfView.TheVariants as reads
use Rattle.cov_script.specs.declared.code.Code.TheVariants.{NotDirectory, NotFile, NoSuchPath}
use Rattle.cov_lines.specs.Acting.{Stops}
use Rattle.cov_lines.specs.Finding.{◌>>=◌}
use Rattle.cov_lines.specs.Seeing.{IsNodeAt}
use Rattle.cov_lines.specs.Step.{file_told, listed_at, listed_in, shown, shown_in, told_in}
use Rattle.cov_codes.specs.Stops.{list_stop, read_stop}
use Rattle.cov_session.specs.Open.{NamedSession, table_of}
use Rattle.cov_visible.specs.Reading.{IsFileAt, line_row}
use Rattle.cov_base.specs.declared.file_row.FileRow.{FileRow}
use Rattle.cov_lines.specs.Replies.{directory_reply, file_line, file_reply, lines_reply, seen_reply, view_line}
use Rattle.cov_lines.specs.States.{State}
use Rattle.cov_lines.proofs.ToldLines.{by-reference, by-row}

not-true : (b : Bool) → not b ≡ true → b ≡ false
not-true true h = absurd (cc)
not-true false h = refl

module _ {st : State} {name : List ℕ} {path : List (List ℕ)} {view : Seen} {ref : NodeRef} (found : IsNodeAt st name path view ref) where
  abbrev s : Session
  s = found.named_so.session.session

  abbrev ns : Numbers
  ns = numbers_of (take s.base st.history)

  abbrev table : List (List ℕ)
  table = table_of st.history s

  abbrev v : Variant
  v = seen s st.history

  abbrev node : ℕ
  node = found.node

  -- what is true of each variant that the view shows is true of what the session sees
  seen-so : (P : Numbers → Variant → Type 0) → ((numbers : Numbers) (addresses : List (List ℕ)) (variant : Variant) → Shows numbers addresses view variant → P numbers variant) → P ns v
  seen-so P all = all ns table v found.named_so.is_open.shows

  file-at : shown st name path ≡ shown_in st s node
  unfolding shown
  file-at = ap (λ f. f >>= (λ (at : NamedSession × ℕ). shown_in st at.0.session at.1)) found.found

  dir-at : listed_at st name path ≡ listed_in st s node
  unfolding listed_at
  dir-at = ap (λ f. f >>= (λ (at : NamedSession × ℕ). listed_in st at.0.session at.1)) found.found

  -- the lines of a file are told as the session sees them
  pub shown-lines : (ls : List ViewLine) (text : List ℕ)
      → ((numbers : Numbers) (addresses : List (List ℕ)) (variant : Variant) → Shows numbers addresses view variant → AreLinesOf numbers view.lines_made variant ref ls)
      → text ≡ lines_reply view_line ls → shown st name path ≡ Ok (st, text)
  shown-lines ls text lines is =
      let own : AreLinesOf ns view.lines_made v ref ls = seen-so (λ numbers variant. AreLinesOf numbers view.lines_made variant ref ls) lines in
      let number = found.is_seen.number in
      file-at
      ∙ ap (λ b. if b then Err NotFile else Ok (st, seen_reply (length ns.addresses) (map by_number (lines_of v node)))) (subst (λ n. is_dir v.rows n ≡ false) number own.is_file)
      ∙ ap (λ t. Ok (st, t))
      (sym (is ∙ by-reference ns view.lines_made ls own.made ∙ ap (seen_reply (length ns.addresses)) (own.lines ∙ ap (λ n. map by_number (lines_of v n)) number)))

  -- what can't be read is refused
  pub read-stops : (fault : ReadFaultOfView)
      → (IsErrOf {T = List ViewLine} (Err fault) reads.NoSuchNode
      → (numbers : Numbers) (addresses : List (List ℕ)) (variant : Variant) → Shows numbers addresses view variant → shows_node numbers variant ref ≡ false)
      → (IsErrOf {T = List ViewLine} (Err fault) reads.NotFile
      → (numbers : Numbers) (addresses : List (List ℕ)) (variant : Variant) → Shows numbers addresses view variant → (shows_node numbers variant ref && is_dir variant.rows (node_number numbers.nodes ref)) ≡ true)
      → Stops (shown st name path) st st (read_stop fault)
  read-stops reads.NoSuchNode absent dir = absurd (let none = seen-so (λ numbers variant. shows_node numbers variant ref ≡ false) (absent refl) in let there = found.is_seen.there in cc)
  read-stops reads.NotFile absent dir =
      let own = seen-so (λ numbers variant. (shows_node numbers variant ref && is_dir variant.rows (node_number numbers.nodes ref)) ≡ true) (dir refl) in
      record {
        is = file-at
            ∙ ap (λ b. if b then Err NotFile else Ok (st, seen_reply (length ns.addresses) (map by_number (lines_of v node))))
            (subst (λ n. is_dir v.rows n ≡ true) found.is_seen.number (and_parts (shows_node ns v ref) (is_dir v.rows (node_number ns.nodes ref)) own).1);
        same = refl;
        told = tt;
      }
  read-stops reads.Memory absent dir = refl

  -- what is in a directory is told as the session sees it
  pub listed-nodes : (rows : List DirRow) (text : List ℕ)
      → ((numbers : Numbers) (addresses : List (List ℕ)) (variant : Variant) → Shows numbers addresses view variant → IsListingOf numbers variant ref rows)
      → text ≡ directory_reply rows → listed_at st name path ≡ Ok (st, text)
  listed-nodes rows text listing is =
      let own : IsListingOf ns v ref rows = seen-so (λ numbers variant. IsListingOf numbers variant ref rows) listing in
      let number = found.is_seen.number in
      dir-at
      ∙ ap (λ b. if b then Ok (st, directory_reply (listed v.rows node)) else Err NotDirectory) (subst (λ n. is_dir v.rows n ≡ true) number own.is_directory)
      ∙ ap (λ t. Ok (st, t)) (sym (is ∙ ap directory_reply (own.rows ∙ ap (listed v.rows) number)))

  -- what can't be listed is refused
  pub list-stops : (fault : ListFault)
      → (IsErrOf {T = List DirRow} (Err fault) lists.NoSuchNode
      → (numbers : Numbers) (addresses : List (List ℕ)) (variant : Variant) → Shows numbers addresses view variant → shows_node numbers variant ref ≡ false)
      → (IsErrOf {T = List DirRow} (Err fault) lists.NotDirectory
      → (numbers : Numbers) (addresses : List (List ℕ)) (variant : Variant) → Shows numbers addresses view variant → (shows_node numbers variant ref && not (is_dir variant.rows (node_number numbers.nodes ref))) ≡ true)
      → Stops (listed_at st name path) st st (list_stop fault)
  list-stops lists.NoSuchNode absent file = absurd (let none = seen-so (λ numbers variant. shows_node numbers variant ref ≡ false) (absent refl) in let there = found.is_seen.there in cc)
  list-stops lists.NotDirectory absent file =
      let own = seen-so (λ numbers variant. (shows_node numbers variant ref && not (is_dir variant.rows (node_number numbers.nodes ref))) ≡ true) (file refl) in
      record {
        is = dir-at
            ∙ ap (λ b. if b then Ok (st, directory_reply (listed v.rows node)) else Err NotDirectory)
            (subst (λ n. is_dir v.rows n ≡ false) found.is_seen.number (not-true (is_dir v.rows (node_number ns.nodes ref)) (and_parts (shows_node ns v ref) (not (is_dir v.rows (node_number ns.nodes ref))) own).1));
        same = refl;
        told = tt;
      }
  list-stops lists.Memory absent file = refl

-- the lines of the file at a path of a variant are told
pub told-lines : (st : State) (v : Variant) (path : List (List ℕ)) (node : ℕ) (rows : List FileRow) (text : List ℕ) → IsFileAt v path (Ok node) → rows ≡ map line_row (lines_of v node)
    → text ≡ lines_reply file_line rows → file_told st v path ≡ Ok (st, text)
unfolding file_told
told-lines st v path node rows text found lines is =
    ap (λ o. ok_or o NoSuchPath >>= told_in st v) found.0
    ∙ ap (λ b. if b then Err NotFile else Ok (st, file_reply (map by_number (lines_of v node)))) found.1
    ∙ ap (λ t. Ok (st, t)) (sym (is ∙ ap (lines_reply file_line) lines ∙ by-row (lines_of v node)))
