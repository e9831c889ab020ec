-- The last items of a list, put in place of others.
use Rattle.std.proofs.Common.{◌≡◌, ℕ, ◌+◌, ◌-◌, ◌≤◌, List, ◌++◌, length, map, take, drop, sym, ap, ◌∙◌, append_assoc, arith}
use Rattle.std.specs.Prelude.{slice_range}
use Rattle.std.proofs.Math.Seq.{paste, take-append-add, drop-append-add}
use Rattle.std.proofs.lemmas.List.{drop-drop, drop-take, drop_at, length-append, length-drop, length-map, length-take, length-take-le, take-append-le, take-take, take_all, take_at}
use Rattle.std.proofs.lemmas.List.Edits.{paste_all, take-paste}

module _ {X : Type 0} where
  take_behind : (ps qs : List X) (m n : ℕ) → length ps + m ≡ n → take n (ps ++ qs) ≡ ps ++ take m qs
  take_behind ps qs m n e = ap (λ k. take k (ps ++ qs)) (sym e) ∙ take-append-add ps qs m

  drop_behind : (ps qs : List X) (m n : ℕ) → length ps + m ≡ n → drop n (ps ++ qs) ≡ drop m qs
  drop_behind ps qs m n e = ap (λ k. drop k (ps ++ qs)) (sym e) ∙ drop-append-add ps qs m

  module _ (xs : List X) (from to count start : ℕ) (order : from ≤ to) (within : to + count ≤ length xs) (is_start : start ≡ length xs - count) where
    abbrev pub last : List X
    last = drop start xs

    last_long : length last ≡ count
    last_long = length-drop start xs ∙ (let e : length xs - start ≡ count = omega (arith, is_start, within) in e)

    front_long : length (take from xs ++ last) ≡ from + count
    front_long = omega (arith, length-append (take from xs) last, length-take from xs, last_long, order, within, is_start)

    abbrev replaced : List X
    replaced = take from xs ++ (last ++ slice_range xs to start)

    -- as many go as come
    pub as_many : (n : ℕ) → n ≡ count → to - from ≡ count → take start (paste xs from last n) ≡ replaced
    as_many n few same =
        let long : n ≡ length last = few ∙ sym last_long in
        let there : from + n ≡ to = omega (arith, order, few, same) in
        let many : length (take from xs ++ last) + (start - to) ≡ start = omega (arith, front_long, order, within, same) in
        ap (take start) (paste_all xs from last n long ∙ (ap (λ k. take from xs ++ (last ++ drop k xs)) there ∙ sym (append_assoc (take from xs) last (drop to xs))))
        ∙ (take_behind (take from xs ++ last) (drop to xs) (start - to) start many
        ∙ append_assoc (take from xs) last (slice_range xs to start))

    -- the last ones come first
    abbrev pub turned : List X
    turned = take from xs ++ (last ++ slice_range xs from start)

    rest_long : length (slice_range xs from start) ≡ start - from
    rest_long = length-take (start - from) (drop from xs) ∙ (let e = length-drop from xs in omega (arith, order, within, is_start))

    pub turned_long : length turned ≡ length xs
    turned_long =
        let all = length-append (take from xs) (last ++ slice_range xs from start) in
        let rest = length-append last (slice_range xs from start) in
        omega (arith, all, rest, length-take from xs, last_long, rest_long, order, within, is_start)

    turned_front : take (from + count) turned ≡ take from xs ++ last
    turned_front = ap (take (from + count)) (sym (append_assoc (take from xs) last (slice_range xs from start))) ∙ take_at (take from xs ++ last) (slice_range xs from start) (from + count) front_long

    turned_back : drop (to + count) turned ≡ slice_range xs to start
    turned_back =
        let many : length (take from xs ++ last) + (to - from) ≡ to + count = omega (arith, front_long, order) in
        let parts : start - from ≡ (to - from) + (start - to) = omega (arith, order, within) in
        let behind : from + (to - from) ≡ to = omega (arith, order) in
        ap (drop (to + count)) (sym (append_assoc (take from xs) last (slice_range xs from start)))
        ∙ (drop_behind (take from xs ++ last) (slice_range xs from start) (to - from) (to + count) many
        ∙ (ap (λ k. drop (to - from) (take k (drop from xs))) parts
        ∙ (drop-take (to - from) (start - to) (drop from xs)
        ∙ (ap (take (start - to)) (drop-drop (to - from) from xs) ∙ ap (λ k. take (start - to) (drop k xs)) behind))))

    kept_long : length (slice_range xs to start) ≡ start - to
    kept_long = length-take (start - to) (drop to xs) ∙ (let e = length-drop to xs in omega (arith, order, within, is_start))

    pub any_many : (items : List X) (n kept : ℕ) → items ≡ turned → n ≡ length xs - (to + count) → kept ≡ length xs - (to - from)
        → take kept (paste items (from + count) (drop (to + count) items) n) ≡ replaced
    any_many items n kept is few long =
        let same : length items ≡ length xs = ap length is ∙ turned_long in
        let at : from + count ≤ length items = omega (arith, same, order, within, is_start) in
        let all : n ≤ length (drop (to + count) items) = omega (arith, length-drop (to + count) items, few) in
        let ends : kept ≡ (from + count) + n = omega (arith, long, few, same, order, within) in
        let enough : length (slice_range xs to start) ≤ n = omega (arith, kept_long, few, same, is_start, within) in
        ap (λ k. take k (paste items (from + count) (drop (to + count) items) n)) ends
        ∙ (take-paste items (from + count) (drop (to + count) items) n at all
        ∙ ((λ i. take (from + count) (is i) ++ take n (drop (to + count) (is i)))
        ∙ ((λ i. turned_front i ++ take n (turned_back i))
        ∙ (ap (λ l. (take from xs ++ last) ++ l) (take_all n (slice_range xs to start) enough)
        ∙ append_assoc (take from xs) last (slice_range xs to start)))))

    -- those behind that stay are changed before
    module _ (f : X → X) where
      abbrev pub part : List X
      part = map f (slice_range xs to start)

      abbrev pub changed : List X
      changed = take to xs ++ (part ++ last)

      part_long : length part ≡ start - to
      part_long = length-map (slice_range xs to start) f ∙ kept_long

      front_is : length (take to xs) ≡ to
      front_is = length-take-le to xs (omega (arith, within, is_start))

      pub changed_by : (lent : List X) (at : ℕ) (items : List X) → lent ≡ xs → at ≡ start → items ≡ take to lent ++ (map f (slice_range lent to at) ++ drop at lent) → items ≡ changed
      changed_by lent at items same there is = is ∙ (λ i. take to (same i) ++ (map f (slice_range (same i) to (there i)) ++ drop (there i) (same i)))

      pub changed_long : length changed ≡ length xs
      changed_long =
          let all = length-append (take to xs) (part ++ last) in
          let rest = length-append part last in
          omega (arith, all, rest, front_is, part_long, last_long, within, is_start)

      changed_front : take from changed ≡ take from xs
      changed_front =
          take-append-le from (take to xs) (part ++ last) (omega (arith, front_is, order))
          ∙ take-take from to xs order

      changed_part : slice_range changed to start ≡ part
      changed_part = ap (take (start - to)) (drop_at (take to xs) (part ++ last) to front_is) ∙ take_at part last (start - to) part_long

      changed_last : drop start changed ≡ last
      changed_last =
          let many : length (take to xs ++ part) ≡ start = omega (arith, length-append (take to xs) part, front_is, part_long, within) in
          ap (drop start) (sym (append_assoc (take to xs) part last)) ∙ drop_at (take to xs ++ part) last start many

      pub are_changed : (items all : List X) → items ≡ changed → all ≡ take from items ++ (drop (length items - count) items ++ slice_range items to (length items - count))
          → all ≡ take from xs ++ (last ++ part)
      are_changed items all is e =
          let ends : length items - count ≡ start = ap (λ n. n - count) (ap length is ∙ changed_long) ∙ sym is_start in
          e ∙ ((λ i. take from (is i) ++ (drop (ends i) (is i) ++ slice_range (is i) to (ends i)))
          ∙ (λ i. changed_front i ++ (changed_last i ++ changed_part i)))

      pub are_unchanged : (items all : List X) → items ≡ xs → map f (slice_range xs to start) ≡ slice_range xs to start
          → all ≡ take from items ++ (drop (length items - count) items ++ slice_range items to (length items - count)) → all ≡ take from xs ++ (last ++ part)
      are_unchanged items all is same e =
          let ends : length items - count ≡ start = ap (λ l. length l - count) is ∙ sym is_start in
          e ∙ ((λ i. take from (is i) ++ (drop (ends i) (is i) ++ slice_range (is i) to (ends i)))
          ∙ ap (λ p. take from xs ++ (last ++ p)) (sym same))
