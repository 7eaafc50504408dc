-- The edit that makes the file, and the commits after it.
use Rattle.std.proofs.Common.{◌≡◌, ℕ, ◌<◌, ◌≤◌, ◌-◌, true, List, [], ◌∷◌, ◌++◌, length, take, get_or, Option, Some, None, option_map, Result, Ok, Err, IfOk, OnOk, refl, sym, ap, subst, ◌∙◌, arith}
use Rattle.std.proofs.lemmas.Bool.Decides.{nat_tests}
use Rattle.cov_base.specs.declared.number.Kind.TheVariants as kinds
use Rattle.cov_base.specs.declared.number.NodeRef.{NodeRef}
use Rattle.cov_base.specs.declared.number.NodeRef.TheVariants as nodes
use Rattle.cov_edit.specs.declared.command.Command.{Command}
use Rattle.cov_edit.specs.declared.edit.Edit.{Edit}
use Rattle.cov_edit.specs.declared.edit.Edit.TheVariants as edits
use Rattle.cov_edit.specs.Numbering.{Numbers, node_number, numbers_of}
use Rattle.cov_edit.specs.Variant.{Variant}
use Rattle.cov_view.specs.Paths.{path_node}
use Rattle.cov_view.specs.References.{is_made_node}
use Rattle.cov_view.specs.Refusals.{refusal}
use Rattle.cov_view.specs.Views.{FaultBy}
use Rattle.cov_view.specs.declared.fault.EditFault.{EditFault}
use Rattle.cov_view.specs.declared.fault.EditFault.TheVariants as edit_faults
use Rattle.cov_cond_text.specs.Conditional.{CondLine, runs_of}
use Rattle.cov_cond.specs.Committing.{making, made_into, made_at, making_fault_of, commits_after, IsFaultBy, IsMakingFault}
use Rattle.cov_cond.specs.Fitting.{directory_of, last_name, first_view, unless, imported_into, imported_in, IsImportFaultOf}
use Rattle.cov_cond.specs.Importing.{first_choice, plain_texts, imported}
use Rattle.cov_cond.specs.declared.fault.ImportFault.{ImportFault}
use Rattle.cov_cond.specs.declared.fault.ImportFault.TheVariants as faults

-- a path is its directory and its last name
pub path_parted : (path : List (List ℕ)) → 0 < length path → path ≡ directory_of path ++ last_name path ∷ []
path_parted [] h = absurd (omega (arith, h))
path_parted (name ∷ []) h = refl
path_parted (name ∷ next ∷ names) h = ap (λ ns. name ∷ ns) (path_parted (next ∷ names) (omega arith))

-- a list is what comes before its last item, and this
pub last-behind : {X : Type 0} (x d : X) (xs : List X) → x ≡ get_or xs (length xs - 1) d → 1 ≤ length xs → xs ≡ take (length xs - 1) xs ++ x ∷ []
last-behind {X} x d [] is h = absurd (omega (arith, h))
last-behind {X} x d (y ∷ ys) is h =
    let less : length (y ∷ ys) - 1 ≡ length ys = omega arith in
    subst (λ n. y ∷ ys ≡ take n (y ∷ ys) ++ x ∷ []) (sym less) (at y ys (is ∙ ap (λ n. get_or (y ∷ ys) n d) less))
  where
    at : (z : X) (zs : List X) → x ≡ get_or (z ∷ zs) (length zs) d → z ∷ zs ≡ take (length zs) (z ∷ zs) ++ x ∷ []
    at z [] e = ap (λ w. w ∷ []) (sym e)
    at z (w ∷ zs) e = ap (λ l. z ∷ l) (at w zs e)

-- what holds of an item, and of whatever item there is
pub ok-with : {X F : Type 0} (r : Result X F) (P Q : X → Type 0) (R : Type 0) → ((x : X) → P x → R → Q x) → IfOk r P → OnOk r R → IfOk r Q
ok-with (Ok x) P Q R f p r = f x p r
ok-with (Err e) P Q R f p r = tt

-- a node that nothing new made is one of before
old-parent : (n : ℕ) (parent : NodeRef) → is_made_node n 0 parent ≡ true → parent ≡ nodes.Old (node_number n parent)
old-parent n (nodes.Old x) h = refl
old-parent n (nodes.New i) h = let low : i < 0 = grind (arith, nat_tests, h) in absurd (omega (arith, low))

-- the fault of an edit as that of the import
pub making_faults : (refused : Option EditFault) (fault : EditFault) → FaultBy fault refused → IsMakingFault refused (making_fault_of fault)
making_faults refused edit_faults.NoSuchNode h = ap (option_map faults.Edit) h
making_faults refused edit_faults.NotFile h = ap (option_map faults.Edit) h
making_faults refused edit_faults.NotDirectory h = ap (option_map faults.Edit) h
making_faults refused edit_faults.NameTaken h = ap (option_map faults.Edit) h
making_faults refused edit_faults.NotEmpty h = ap (option_map faults.Edit) h
making_faults refused edit_faults.IntoItself h = ap (option_map faults.Edit) h
making_faults refused edit_faults.IsRoot h = ap (option_map faults.Edit) h
making_faults refused edit_faults.NoSuchLine h = ap (option_map faults.Edit) h
making_faults refused edit_faults.Memory h = tt

-- the first refusal where there is one
unless-fault : {X : Type 0} (found : Option ImportFault) (answer : X) (fault : ImportFault) → IsFaultBy found fault → IsImportFaultOf (unless found (Ok answer)) fault
unless-fault found answer faults.TooManyEdits h = ap (λ o. unless o (Ok answer)) h
unless-fault found answer faults.TooManyBytes h = ap (λ o. unless o (Ok answer)) h
unless-fault found answer faults.Full h = ap (λ o. unless o (Ok answer)) h
unless-fault found answer faults.TooManyLines h = ap (λ o. unless o (Ok answer)) h
unless-fault found answer faults.NoSuchPath h = ap (λ o. unless o (Ok answer)) h
unless-fault found answer (faults.Edit fault) h = ap (λ o. unless o (Ok answer)) h
unless-fault found answer faults.Memory h = tt

module _ (ns : Numbers) (v : Variant) (path directory : List (List ℕ)) (name : List ℕ) (parts : path ≡ directory ++ name ∷ []) (named : 0 < length path) where
  -- the same parts of one path
  parted : (xs ys : List (List ℕ)) (x y : List ℕ) → xs ++ x ∷ [] ≡ ys ++ y ∷ [] → (xs ≡ ys) × (x ≡ y)
  parted [] [] x y h = (refl, (let same : x ≡ y = cc in same))
  parted [] (b ∷ ys) x y h = absurd (let long = ap length h in none ys long)
    where
      none : (zs : List (List ℕ)) → 1 ≡ length (b ∷ (zs ++ y ∷ [])) → ⊥
      none [] e = omega (arith, e)
      none (z ∷ zs) e = omega (arith, e)
  parted (a ∷ xs) [] x y h = absurd (let long = ap length h in none xs long)
    where
      none : (zs : List (List ℕ)) → length (a ∷ (zs ++ x ∷ [])) ≡ 1 → ⊥
      none [] e = omega (arith, e)
      none (z ∷ zs) e = omega (arith, e)
  parted (a ∷ xs) (b ∷ ys) x y h =
      let first : a ≡ b = cc in
      let rest : xs ++ x ∷ [] ≡ ys ++ y ∷ [] = cc in
      let both = parted xs ys x y rest in
      ((λ i. first i ∷ both.0 i), both.1)

  same_parts : (directory_of path ≡ directory) × (last_name path ≡ name)
  same_parts = parted (directory_of path) directory (last_name path) name (sym (path_parted path named) ∙ parts)

  at_directory : made_at ns v path ≡ made_into ns v (path_node v.rows 0 directory) name
  at_directory = λ i. made_into ns v (path_node v.rows 0 (same_parts.0 i)) (same_parts.1 i)

  -- where nothing is at the directory's path
  pub made_nowhere : path_node v.rows 0 directory ≡ None → made_at ns v path ≡ Err faults.NoSuchPath
  made_nowhere none = at_directory ∙ ap (λ o. made_into ns v o name) none

  module _ (parent : NodeRef) (found : Some (node_number ns.nodes parent) ≡ path_node v.rows 0 directory) (old : is_made_node ns.nodes 0 parent ≡ true) where
    at_parent : made_at ns v path ≡ unless (option_map faults.Edit (refusal ns v (edits.New kinds.File parent name))) (Ok (edits.New kinds.File parent name))
    at_parent =
        at_directory
        ∙ ap (λ o. made_into ns v o name) (sym found)
        ∙ ap (λ p. unless (option_map faults.Edit (refusal ns v (edits.New kinds.File p name))) (Ok (edits.New kinds.File p name))) (sym (old-parent ns.nodes parent old))

    pub made_taken : refusal ns v (edits.New kinds.File parent name) ≡ None → made_at ns v path ≡ Ok (edits.New kinds.File parent name)
    made_taken none = at_parent ∙ ap (λ o. unless (option_map faults.Edit o) (Ok (edits.New kinds.File parent name))) none

    pub made_refused : (fault : ImportFault) → IsMakingFault (refusal ns v (edits.New kinds.File parent name)) fault → IsImportFaultOf (made_at ns v path) fault
    made_refused fault h =
        subst (λ r. IsImportFaultOf r fault) (sym at_parent) (unless-fault (option_map faults.Edit (refusal ns v (edits.New kinds.File parent name))) (edits.New kinds.File parent name) fault h)

module _ (history : List Command) (path : List (List ℕ)) (t : List CondLine) where
  abbrev pub answer : Edit → List Command
  answer edit = commits_after history (first_choice history) edit (plain_texts (runs_of t)) (runs_of t)

  -- where the edit is taken, the commits come after it
  pub import_taken : (edit : Edit) → made_at (numbers_of history) (first_view history) path ≡ Ok edit → imported_in history path t ≡ Ok (answer edit)
  import_taken edit h = at (path_node (first_view history).rows 0 (directory_of path)) h
    where
      at : (o : Option ℕ) → made_into (numbers_of history) (first_view history) o (last_name path) ≡ Ok edit → imported_into history o (last_name path) t ≡ Ok (answer edit)
      at None k = absurd (cc)
      at (Some parent) k = by (refusal (numbers_of history) (first_view history) (making parent (last_name path))) k
        where
          by : (o : Option EditFault) → unless (option_map faults.Edit o) (Ok (making parent (last_name path))) ≡ Ok edit → unless (option_map faults.Edit o) (Ok (imported history parent (last_name path) t)) ≡ Ok (answer edit)
          by None l = let same : making parent (last_name path) ≡ edit = cc in ap (λ e. Ok (answer e)) same
          by (Some fault) l = absurd (cc)

  -- where it isn't, the import is refused as it is
  pub import_refused : (fault : ImportFault) → IsImportFaultOf (made_at (numbers_of history) (first_view history) path) fault → IsImportFaultOf (imported_in history path t) fault
  import_refused fault h = at (path_node (first_view history).rows 0 (directory_of path)) fault h
    where
      same-fault : {X Y : Type 0} (found : Option ImportFault) (x : X) (y : Y) (f : ImportFault) → IsImportFaultOf (unless found (Ok x)) f → IsImportFaultOf (unless found (Ok y)) f
      same-fault found x y faults.Memory k = tt
      same-fault (Some g) x y faults.TooManyEdits k = let same : g ≡ faults.TooManyEdits = cc in ap Err same
      same-fault (Some g) x y faults.TooManyBytes k = let same : g ≡ faults.TooManyBytes = cc in ap Err same
      same-fault (Some g) x y faults.Full k = let same : g ≡ faults.Full = cc in ap Err same
      same-fault (Some g) x y faults.TooManyLines k = let same : g ≡ faults.TooManyLines = cc in ap Err same
      same-fault (Some g) x y faults.NoSuchPath k = let same : g ≡ faults.NoSuchPath = cc in ap Err same
      same-fault (Some g) x y (faults.Edit f) k = let same : g ≡ faults.Edit f = cc in ap Err same
      same-fault None x y faults.TooManyEdits k = absurd (cc)
      same-fault None x y faults.TooManyBytes k = absurd (cc)
      same-fault None x y faults.Full k = absurd (cc)
      same-fault None x y faults.TooManyLines k = absurd (cc)
      same-fault None x y faults.NoSuchPath k = absurd (cc)
      same-fault None x y (faults.Edit f) k = absurd (cc)

      nowhere : (X Y : Type 0) (f : ImportFault) → IsImportFaultOf {X = X} (Err faults.NoSuchPath) f → IsImportFaultOf {X = Y} (Err faults.NoSuchPath) f
      nowhere X Y faults.Memory k = tt
      nowhere X Y faults.TooManyEdits k = absurd (cc)
      nowhere X Y faults.TooManyBytes k = absurd (cc)
      nowhere X Y faults.Full k = absurd (cc)
      nowhere X Y faults.TooManyLines k = absurd (cc)
      nowhere X Y faults.NoSuchPath k = refl
      nowhere X Y (faults.Edit f) k = absurd (cc)

      at : (o : Option ℕ) (f : ImportFault) → IsImportFaultOf (made_into (numbers_of history) (first_view history) o (last_name path)) f → IsImportFaultOf (imported_into history o (last_name path) t) f
      at None f k = nowhere Edit (List Command) f k
      at (Some parent) f k =
          same-fault (option_map faults.Edit (refusal (numbers_of history) (first_view history) (making parent (last_name path)))) (making parent (last_name path)) (imported history parent (last_name path) t) f k
