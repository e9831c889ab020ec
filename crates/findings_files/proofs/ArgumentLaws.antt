-- What is asked for by help, and by files alone.
use Rattle.std.proofs.Common.{◌≡◌, ◌≢◌, ◌∙◌, ℕ, List, [], ◌∷◌, ◌++◌, Ok, refl, sym, ap, append_assoc, append-nil}
use Rattle.std.specs.Prelude.{All, codes, fold}
use Rattle.std.proofs.lemmas.List.Elements.{All-head, All-tail}
use Rattle.std.proofs.lemmas.List.Folds.{fold_stays}
use Rattle.findings_files.specs.declared.arguments.Arguments.{Arguments}
use Rattle.findings_files.specs.declared.arguments.Request.TheVariants as r
use Rattle.findings_files.specs.declared.step.Expected.TheVariants as stage
use Rattle.findings_files.specs.declared.step.Step.TheVariants.{Ends, Goes}
use Rattle.findings_files.specs.declared.word.Word.TheVariants as w
use Rattle.findings_files.specs.Arguments.{file_step, first_step, further, no_arguments, request_of, request_of_step, argument_word}

pub help_first : (words : List (List ℕ)) → request_of (codes "--help" ∷ words) ≡ Ok r.Help
help_first words = ap request_of_step (fold_stays further (Ends r.Help) (λ word. refl) words)

abbrev IsFile : List ℕ → Type 0
IsFile file = argument_word file ≡ w.File

-- files behind files are named too
files_on : (arguments : Arguments) (files : List (List ℕ)) → All IsFile files
    → fold further (Goes stage.Files arguments) files ≡ Goes stage.Files (record arguments { files = arguments.files ++ files })
files_on arguments [] all = (λ i. Goes stage.Files (record arguments { files = sym (append-nil arguments.files) i }))
files_on arguments (f ∷ files) all =
    (λ i. fold further (file_step (All-head IsFile f files all i) arguments f) files)
    ∙ (files_on (record arguments { files = arguments.files ++ f ∷ [] }) files (All-tail IsFile f files all)
    ∙ (λ i. Goes stage.Files (record arguments { files = append_assoc arguments.files (f ∷ []) files i })))

pub files_alone : (files : List (List ℕ)) → files ≢ [] → All IsFile files → request_of files ≡ Ok (r.Print (record no_arguments { files = files }))
files_alone [] some all = absurd (some refl)
files_alone (f ∷ files) some all =
    ap request_of_step
    ((λ i. fold further (first_step (All-head IsFile f files all i) no_arguments f) files)
    ∙ files_on (record no_arguments { files = f ∷ [] }) files (All-tail IsFile f files all))
