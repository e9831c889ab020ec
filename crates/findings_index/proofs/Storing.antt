-- Digests that are kept stay so where the table of names and the words grow, and one more is kept behind them.
use Rattle.std.proofs.Common.{◌≡◌, ℕ, ◌+◌, ◌-◌, ◌≤◌, ⊎_elim, Option, Some, None, List, [], ◌∷◌, ◌++◌, length, take, drop, refl, sym, ap, subst, ◌∙◌, arith}
use Rattle.std.specs.Prelude.{Bool, Contains, flat_map, fold, option_map, slice_range, unwrap_or, ◌||◌}
use Rattle.std.specs.List.{list_any, position_or_len}
use Rattle.std.specs.Option.{is_some}
use Rattle.std.specs.Str.{bytes_eq}
use Rattle.std.proofs.lemmas.List.{drop_at, drop-append-le, length-append, length-drop, take_all, take-append-le}
use Rattle.std.proofs.lemmas.List.Elements.{Contains-append_left, Contains-append_right}
use Rattle.abnf_syntax.specs.Grammar.{kind_of}
use Rattle.abnf_syntax.specs.Heads.{head_of}
use Rattle.abnf_parts.specs.Names.{Name, rule_number, with_name}
use Rattle.abnf_parts.specs.Part.{Part, Parts, quoted, series, span, seq, alt, rep, ref, opaque, end, next}
use Rattle.abnf_names.specs.declared.section.Section.{Section}
use Rattle.abnf_names.specs.Said.{Block, BlockSays}
use Rattle.abnf_names.specs.Excerpts.{Excerpt}
use Rattle.abnf_names.specs.Sections.{IsSaidBy}
use Rattle.abnf_lint.specs.Empty.{is_above, is_empty_number}
use Rattle.abnf_digests.specs.Digests.{Digest, digest_of, head_digest}
use Rattle.abnf_digests.specs.Quiet.{has_own_findings}
use Rattle.findings_index.specs.declared.digest.HeadNumber.{HeadNumber}
use Rattle.findings_index.specs.declared.digest.BlockDigest.{BlockDigest}
use Rattle.findings_index.specs.declared.word.Word.{Word}
use Rattle.findings_index.specs.declared.word.Word.TheVariants as w
use Rattle.findings_index.specs.KeptBlocks.{AreEachKept, IsKept}
use Rattle.findings_index.specs.Words.{IsLater, names_in, names_in_all, number_in_table, parts_count, repeat_words, words_of, words_of_all}
use Rattle.findings_index.specs.own.Adding.{AddsWords}
use Rattle.findings_index.specs.Stored.{IsStored, StandsFor}
use Rattle.findings_index.specs.Sections.{IsBlockOf}
use Rattle.findings_index.proofs.Elements.{first_in, first_or_later, none_in}
use Rattle.findings_index.proofs.TableLaws.{later_fold, place_is}

-- ---- names that have numbers

abbrev IsKnown : List Name → Name → Type 0
IsKnown table name = (number : ℕ) × (rule_number table name ≡ Some number)

-- each name that was added has a number
known_added : (names table : List Name) (name : Name) → Contains names name → IsKnown (fold with_name table names) name
known_added [] table name c = none_in name c
known_added (n ∷ names) table name c =
    ⊎_elim
    (λ e. (
      position_or_len (bytes_eq n) table,
      later_fold names (with_name table n) name (position_or_len (bytes_eq n) table)
          (subst (λ it. rule_number (with_name table n) it ≡ Some (position_or_len (bytes_eq n) table)) e (place_is table n (position_or_len (bytes_eq n) table) refl)),
    ))
    (λ d. known_added names (with_name table n) name d)
    (first_or_later n names name c)

-- ---- words with the numbers of a later table

module _ (table later : List Name) (is_later : IsLater table later) where
  same_number : (name : Name) → IsKnown table name → number_in_table table name ≡ number_in_table later name
  same_number name known = ap (λ it. unwrap_or it (length table)) known.1 ∙ sym (ap (λ it. unwrap_or it (length later)) (is_later name known.0 known.1))

  abbrev AllKnown : List Name → Type 0
  AllKnown names = (name : Name) → Contains names name → IsKnown table name

  mutual
    same_words : (p : Part) → AllKnown (names_in p) → words_of (number_in_table table) p ≡ words_of (number_in_table later) p
    same_words (quoted text exact) known = refl
    same_words (series characters) known = refl
    same_words (span low high) known = refl
    same_words (seq ps) known = ap (λ it. it ++ w.All (parts_count ps) ∷ []) (same_words_all ps known)
    same_words (alt ps) known = ap (λ it. it ++ w.Any (parts_count ps) ∷ []) (same_words_all ps known)
    same_words (rep least most p) known = ap (λ it. it ++ repeat_words (is_above least most) least) (same_words p known)
    same_words (ref name rule) known = ap (λ n. w.Name n ∷ []) (same_number name (known name (first_in name [])))
    same_words opaque known = refl

    same_words_all : (ps : Parts) → AllKnown (names_in_all ps) → words_of_all (number_in_table table) ps ≡ words_of_all (number_in_table later) ps
    same_words_all end known = refl
    same_words_all (next p ps) known = λ i.
        same_words p (λ name c. known name (Contains-append_left (names_in p) (names_in_all ps) name c)) i
        ++ same_words_all ps (λ name c. known name (Contains-append_right (names_in p) (names_in_all ps) name c)) i

  same_words_each : (ps : List Part) → AllKnown (flat_map names_in ps) → flat_map (words_of (number_in_table table)) ps ≡ flat_map (words_of (number_in_table later)) ps
  same_words_each [] known = refl
  same_words_each (p ∷ ps) known = λ i.
      same_words p (λ name c. known name (Contains-append_left (names_in p) (flat_map names_in ps) name c)) i
      ++ same_words_each ps (λ name c. known name (Contains-append_right (names_in p) (flat_map names_in ps) name c)) i

-- ---- a part of a list that grows

kept_slice : (xs ys : List Word) (from to : ℕ) → from ≤ to → to ≤ length xs → slice_range (xs ++ ys) from to ≡ slice_range xs from to
kept_slice xs ys from to order within =
    let fits : to - from ≤ length (drop from xs) = omega (arith, order, within, length-drop from xs) in
    ap (take (to - from)) (drop-append-le from xs ys (omega (arith, order, within))) ∙ take-append-le (to - from) (drop from xs) ys fits

new_slice : (xs ys zs : List Word) → zs ≡ xs ++ ys → slice_range zs (length xs) (length zs) ≡ ys
new_slice xs ys zs is =
    let count : length zs ≡ length xs + length ys = ap length is ∙ length-append xs ys in
    ap (λ it. take (length zs - length xs) (drop (length xs) it)) is
    ∙ (ap (take (length zs - length xs)) (drop_at xs ys (length xs) refl)
    ∙ take_all (length zs - length xs) ys (omega (arith, count)))

-- ---- what is kept stays so

still_stands : (table later : List Name) → IsLater table later → (kept : Option HeadNumber) (head : Option (Name × Bool)) → StandsFor table kept head → StandsFor later kept head
still_stands table later l None None h = tt
still_stands table later l None (Some head) h = absurd h
still_stands table later l (Some number) None h = absurd h
still_stands table later l (Some number) (Some head) h = (l head.0 number.name h.0, h.1)

still_stored : (table later : List Name) (all more : List Word) → IsLater table later → (kept : BlockDigest) (digest : Digest) → IsStored table all kept digest
    → IsStored later (all ++ more) kept digest
still_stored table later all more l kept digest h = record {
  head = still_stands table later l kept.head digest.head h.head;
  order = h.order;
  within = omega (arith, h.within, length-append all more);
  words = kept_slice all more kept.start kept.end h.order h.within ∙ (h.words ∙ same_words_each table later l digest.said h.known);
  known = λ name c. (let k = h.known name c in (k.0, l name k.0 k.1));
}

-- the same of each that is kept, and of one more
each_more : (table later : List Name) (all more : List Word) → IsLater table later → (kept : List BlockDigest) (bounds : List (ℕ × ℕ)) (blocks : List Block)
    (k : BlockDigest) (b : ℕ × ℕ) (block : Block) → AreEachKept table all kept bounds blocks → IsKept later (all ++ more) k b block
    → AreEachKept later (all ++ more) (kept ++ k ∷ []) (bounds ++ b ∷ []) (blocks ++ block ∷ [])
each_more table later all more l [] [] [] k b block h one = (one, tt)
each_more table later all more l [] [] (y ∷ blocks) k b block h one = absurd h
each_more table later all more l [] (x ∷ bounds) blocks k b block h one = absurd h
each_more table later all more l (z ∷ kept) [] blocks k b block h one = absurd h
each_more table later all more l (z ∷ kept) (x ∷ bounds) [] k b block h one = absurd h
each_more table later all more l (z ∷ kept) (x ∷ bounds) (y ∷ blocks) k b block h one = (
  record {
    digest = still_stored table later all more l z (digest_of y) h.0.digest;
    first = h.0.first;
    behind = h.0.behind;
    own = h.0.own;
  },
  each_more table later all more l kept bounds blocks k b block h.1 one,
)

-- ---- one more

-- This is told of a block whose words stand behind others.
pub record IsNext (grown : List Name) (before after : List Word) (one : BlockDigest) (bounds : ℕ × ℕ) (block : Block) (mid : List Name) : Type 0 where
  pub head : StandsFor mid one.head (digest_of block).head
  pub added : AddsWords (digest_of block).said mid grown before after
  pub begins : one.start ≡ length before
  pub ends : one.end ≡ length after
  pub first : one.first ≡ bounds.0
  pub behind : one.behind ≡ bounds.1
  pub own : one.has_own ≡ has_own_findings block

pub one_more : (table mid grown : List Name) (before after : List Word) (kept now : List BlockDigest) (one : BlockDigest) (bounds : ℕ × ℕ) (block : Block)
    → IsLater table mid → IsNext grown before after one bounds block mid → now ≡ kept ++ one ∷ [] → (bs : List (ℕ × ℕ)) (blocks : List Block)
    → AreEachKept table before kept bs blocks → AreEachKept grown after now (bs ++ bounds ∷ []) (blocks ++ block ∷ [])
one_more table mid grown before after kept now one bounds block early told is bs blocks each =
    let said = (digest_of block).said in
    let more = flat_map (words_of (number_in_table grown)) said in
    let joined : after ≡ before ++ more = told.added.words grown (λ name number e. e) in
    let late : IsLater mid grown = λ name number e. subst (λ it. rule_number it name ≡ Some number) (sym told.added.names) (later_fold (flat_map names_in said) mid name number e) in
    let count : length after ≡ length before + length more = ap length joined ∙ length-append before more in
    let itself : IsKept grown after one bounds block = record {
      digest = record {
        head = still_stands mid grown late one.head (digest_of block).head told.head;
        order = omega (arith, told.begins, told.ends, count);
        within = omega (arith, told.ends);
        words = (λ i. slice_range after (told.begins i) (told.ends i)) ∙ new_slice before more after joined;
        known = λ name c. subst (λ it. IsKnown it name) (sym told.added.names) (known_added (flat_map names_in said) mid name c);
      };
      first = told.first;
      behind = told.behind;
      own = told.own;
    } in
    subst (λ (it : List BlockDigest × List Word). AreEachKept grown it.1 it.0 (bs ++ bounds ∷ []) (blocks ++ block ∷ [])) (λ i. (sym is i, sym joined i))
    (each_more table grown before more (λ name number e. late name number (early name number e)) kept bs blocks one bounds block each
    (subst (λ it. IsKept grown it one bounds block) joined itself))

-- ---- sections and their blocks

pub is_said : (section : Section) (block : Block) → IsBlockOf section block → IsSaidBy section block.said
is_said section block h = record {
  says = subst (λ items. BlockSays items block.said) (sym (ap (λ e. e.items) h.same)) h.says;
  shown = ap (λ e. e.fault) h.same;
}

pub head_is : (section : Section) (block : Block) → IsBlockOf section block → option_map head_digest (head_of section.block.items) ≡ (digest_of block).head
head_is section block h = ap (λ e. option_map head_digest (head_of e.items)) h.same

pub own_is : (section : Section) (block : Block) → IsBlockOf section block
    → (is_some section.fault || list_any (λ item. is_empty_number (kind_of item) item.token.text.now) section.block.items) ≡ has_own_findings block
own_is section block h = ap (λ (e : Excerpt). is_some e.fault || list_any (λ item. is_empty_number (kind_of item) item.token.text.now) e.items) h.same
