-- The text of a certificate as it is written.
use Rattle.std.proofs.Common.{◌≡◌, ℕ, suc, ◌+◌, ◌<◌, ◌≤◌, List, ◌∷◌, ◌++◌, length, get_or, drop, sym, ap, ◌∙◌, append_assoc, add-one}
use Rattle.std.proofs.lemmas.List.{append-nil, drop_all}
use Rattle.std.proofs.Math.Seq.{drop-cons}
use Rattle.abnf_cert.specs.declared.entry.Entry.{Entry}
use Rattle.abnf_cert.specs.Text.{entry_line, lines_from}

pub four : (t n l h c s e t1 t2 t3 t4 : List ℕ) → t1 ≡ t ++ n ++ s → t2 ≡ t1 ++ l ++ s → t3 ≡ t2 ++ h ++ s → t4 ≡ t3 ++ c ++ e → t4 ≡ t ++ (n ++ s ++ (l ++ s ++ (h ++ s ++ (c ++ e))))
four t n l h c s e t1 t2 t3 t4 e1 e2 e3 e4 =
    e4 ∙ ap (λ x. x ++ c ++ e) (e3 ∙ ap (λ x. x ++ h ++ s) (e2 ∙ ap (λ x. x ++ l ++ s) e1)) ∙ simp append_assoc

pub one_more : (es : List Entry) (i : ℕ) (d : Entry) (t u whole : List ℕ) → i < length es → t ++ lines_from i (drop i es) ≡ whole → u ≡ t ++ entry_line i (get_or es i d) → u ++ lines_from (i + 1) (drop (i + 1) es) ≡ whole
one_more es i d t u whole lt before more =
    let here : drop i es ≡ get_or es i d ∷ drop (suc i) es = drop-cons es i d lt in
    ap (λ n. u ++ lines_from n (drop n es)) (add-one i)
    ∙ (ap (λ x. x ++ lines_from (suc i) (drop (suc i) es)) more
    ∙ (append_assoc t (entry_line i (get_or es i d)) (lines_from (suc i) (drop (suc i) es))
    ∙ (sym (ap (λ x. t ++ lines_from i x) here) ∙ before)))

pub all_written : (es : List Entry) (i : ℕ) (t whole : List ℕ) → length es ≤ i → t ++ lines_from i (drop i es) ≡ whole → t ≡ whole
all_written es i t whole past before =
    sym (append-nil t) ∙ (sym (ap (λ x. t ++ lines_from i x) (drop_all i es past)) ∙ before)
