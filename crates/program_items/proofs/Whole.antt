-- Whole programs: the items up to the text's end.
use mathlib.Core.Path.{◌≡◌, refl, sym, ap, subst, ◌∙◌}
use mathlib.Core.Bool.{Bool, true, false}
use mathlib.Core.List.{List, [], ◌∷◌, ◌++◌, append_assoc, append-nil}
use Prim.Native.Nat.{ℕ, zero, suc, ◌+◌, ◌-◌, ◌*◌, ◌≤◌, ◌<◌}
use native.Mathlib.Omega.{arith}
use lib.ListN.{length, length-append}
use lib.Seq.{sets}
use borrow.Author.Tests.{eqb-true, eq-eqb, ne_eqb}
use Rattle.lists.proofs.Tests.{clash}
use Rattle.edition.specs.Limits.{filter_text}
use Rattle.semantics.specs.Moves.{Section}
use Rattle.program_tokens.specs.Kinds.{Kind, text_end, among, same, rank}
use Rattle.program_tokens.specs.Tokens.{Token, is, is_one_of, token_at, token_after, as_operand}
use Rattle.program_tree.specs.Tree.{Item, Program as Tree}
use Rattle.program_grammar.specs.Sets.{enders}
use Rattle.program_reader.specs.Read.{Read as Result, ok, no, map, bind, past_in, past, past_newlines}
use Rattle.program_reader.specs.Programs.{item_at, items, read_program}
use Rattle.program_code.specs.Emitted.{Emitted, emit, nothing}
use Rattle.program_code.specs.Sections.{size_of, compile_statement, part_of, parts_of, section_code}
use Rattle.program_code.proofs.Sections.{statement-length}
use Rattle.image_format.specs.Codes.{section_end, flow}
use Rattle.program_lexer.specs.Coded.{coded, decoded, kind_count}
use Rattle.program_lexer.specs.declared.tokens.Token.{Token as Coded}
use Rattle.program_words.specs.Words.{word}
use Rattle.program_parser.specs.Meaning.{Wrote}
use Rattle.program_parser.specs.Reading.{Good}
use Rattle.program_newlines.specs.Passing.{passing}
use Rattle.program_parser.proofs.Codes.{kind-below, decoded-back}
use Rattle.program_parser.proofs.Tokens.{good-at, good-after, good-operand, good-past}
use Rattle.program_newlines.proofs.Passing.{still}
use Rattle.program_parser.proofs.Spelling.{wrote_after}
use Rattle.program_items.specs.declared.programs.Program.{Program}
use Rattle.program_items.specs.Programs.{count_in, ReadingProgram}
use Rattle.program_items.specs.Items.{ReadItem, ReadingItem, Onward}
use Rattle.program_simple.proofs.Answers.{lower, here, token-ready, good-newlines}
use Rattle.program_simple.proofs.Jumps.{none-wrote, end-wrote}

-- ---- past the ends that follow an item

ender-begun : (k : Kind) → among enders k ≡ true → same k text_end ≡ false
unfolding among rank
ender-begun k e = ne_eqb (rank k) 0 (λ z. clash (sym e ∙ rw z))

-- the text's end is no slash
end-operand : (edition : ℕ) (s : List ℕ) (t : Token) → is text_end t ≡ true → as_operand edition s t ≡ t
unfolding as_operand among rank
end-operand edition s t e = rw (eqb-true (rank t.kind) 0 e)

end-no-ender : (k : Kind) → same k text_end ≡ true → among enders k ≡ false
unfolding among rank
end-no-ender k e = rw (eqb-true (rank k) 0 e)

module _ (edition : ℕ) (s : List ℕ) where
  -- the token from which the next item is read
  abbrev pub Onto : Token → Token
  Onto u = as_operand edition s (past edition s enders u)

  onto-good : (u : Token) → Good edition s u.start u → Good edition s u.start (Onto u)
  onto-good u g = good-operand edition s u.start _ (good-past edition s u.start enders (length s) u g)

  -- past an end
  onto-further : (m : ℕ) (u : Token) → Good edition s u.start u → is_one_of enders u ≡ true
      → Good edition s u.stop (past_in edition s enders (suc m) u)
  unfolding past_in
  onto-further m u g e = rw e (good-past edition s u.stop enders m (token_after edition s u)
      (good-after edition s u.start u g))

  onto-end : (u : Token) → Good edition s u.start u → is_one_of enders u ≡ true → u.start < (Onto u).start
  onto-end u g e = go (length s) refl
    where
      longer : u.start < u.stop
      longer = g.longer (ender-begun u.kind e)

      go : (m : ℕ) → length s ≡ m → u.start < (Onto u).start
      go zero k = absurd (omega (arith, k, longer, g.within))
      go (suc m) k =
          let f = onto-further m u g e in
          let h : Good edition s u.stop (past edition s enders u) =
          subst (λ (i : ℕ). Good edition s u.stop (past_in edition s enders i u)) (sym k) f in
          omega (arith, longer, (good-operand edition s u.stop (past edition s enders u) h).after)

  onto-stays : (u : Token) → is text_end u ≡ true → Onto u ≡ u
  onto-stays u e = ap (as_operand edition s) (still edition s enders (length s) u (end-no-ender u.kind e))
      ∙ end-operand edition s u e

-- ---- the items that are left

module _ (edition : ℕ) (s : List ℕ) where
  items-end : (m : ℕ) (t : Token) → is text_end t ≡ true → items edition s (suc m) t ≡ ok [] t
  unfolding items
  items-end m t e = rw e

  -- the items from t on, by what the first reads as
  abbrev More : ℕ → Result Item → Result Tree
  More m R = bind R (λ i u. map (λ l. i ∷ l) (items edition s m (Onto edition s u)))

  items_more : (m : ℕ) (t : Token) → is text_end t ≡ false → items edition s (suc m) t ≡ More m (item_at edition s t)
  unfolding items
  items_more m t e = rw e

  -- what is left from the token of p on is what was from the first token on; `code` is what was written
  pub record ProgramTurn (xs : Section → List ℕ) (p : Program) (ys : Section → List ℕ) : Type 0 where
    pub whole : Tree → Tree
    pub size : Section → ℕ
    pub code : Section → List Emitted
    pub sized : (x : Section) (l : Tree) → size_of (parts_of x (whole l)) ≡ size x + size_of (parts_of x l)
    pub compiled : (x : Section) (l : Tree) → compile_statement (parts_of x (whole l)) 0
        ≡ code x ++ compile_statement (parts_of x l) (size x)
    pub long : (x : Section) → length (code x) ≡ size x
    pub next : Token
    pub token : p.token ≡ coded next
    pub counts : (x : Section) → count_in p x ≡ size x
    pub good : Good edition s 0 next
    pub bound : (x : Section) → size x ≤ 8 * next.start + 3
    pub tight : is text_end next ≡ false → (x : Section) → size x ≤ 8 * next.start
    pub left : ℕ
    pub enough : length s < left + next.start
    pub same : map whole (items edition s left next) ≡ read_program edition s
    pub wrote : (x : Section) → Wrote edition s (xs x) 0 (code x) (ys x)

  pub program-start : (xs : Section → List ℕ) (p : Program) (u v : Coded) → u ≡ coded (token_at edition s 0)
      → v ≡ coded (past_newlines edition s (decoded u)) → p.token ≡ v → ((x : Section) → count_in p x ≡ 0)
      → ProgramTurn xs p xs
  unfolding read_program
  program-start xs p u v ue ve pe zeros =
      let first : Token = past_newlines edition s (token_at edition s 0) in
      record {
        whole = λ l. l;
        size = λ x. 0;
        code = λ x. [];
        sized = λ x l. omega arith;
        compiled = λ x l. refl;
        long = λ x. refl;
        next = first;
        token = pe ∙ (ve ∙ ap (λ (y : Token). coded (past_newlines edition s y))
            (decoded-back u (token_at edition s 0) ue));
        counts = zeros;
        good = good-newlines edition s 0 (token_at edition s 0) (good-at edition s 0 (omega arith));
        bound = λ x. omega arith;
        tight = λ e x. omega arith;
        left = suc (length s);
        enough = omega arith;
        same = map_same (items edition s (suc (length s)) first);
        wrote = λ x. none-wrote edition s (xs x) 0;
      }
    where
      map_same : (R : Result Tree) → map (λ l. l) R ≡ R
      map_same (ok l y) = refl
      map_same (no o y) = refl

  module _ (xs : Section → List ℕ) (p : Program) (ys : Section → List ℕ) (turn : ProgramTurn xs p ys) where
    kind-is : p.token.kind ≡ rank turn.next.kind
    kind-is = ap (λ (x : Coded). x.kind) turn.token

    start_is : p.token.start ≡ turn.next.start
    start_is = ap (λ (x : Coded). x.start) turn.token

    has_left : (m : ℕ) × (turn.left ≡ suc m)
    has_left = go turn.left refl
      where
        go : (j : ℕ) → turn.left ≡ j → (m : ℕ) × (turn.left ≡ suc m)
        go zero e = absurd (omega (arith, e, turn.enough, turn.good.ordered, turn.good.within))
        go (suc m) e = (m, e)

    left_is : (R : Result Tree) → items edition s (suc has_left.0) turn.next ≡ R → map turn.whole R
        ≡ read_program edition s
    left_is R e =
        ap (map turn.whole) (sym e)
        ∙ (ap (λ (j : ℕ). map turn.whole (items edition s j turn.next)) (sym has_left.1) ∙ turn.same)

    pub counts-small : length s ≤ filter_text → (x : Section) → count_in p x < 65540
    counts-small small x = omega (arith, turn.counts x, turn.bound x, turn.good.ordered, turn.good.within)

    -- ---- the text's end

    -- a section with its last instruction
    closed-section : (x : Section) (zs : List ℕ) → zs ≡ sets (ys x) (count_in p x) (word 0 0 0 ∷ [])
        → Wrote edition s (xs x) 0 (section_code x (turn.whole [])) zs
    unfolding section_code parts_of compile_statement
    closed-section x zs e =
        let body : compile_statement (parts_of x (turn.whole [])) 0 ≡ turn.code x = turn.compiled x []
        ∙ append-nil (turn.code x) in
        subst (λ (is : List Emitted). Wrote edition s (xs x) 0 (is ++ emit (flow section_end) 0 nothing) zs) (sym body)
        (wrote_after edition s (xs x) (ys x) zs 0 (count_in p x) (turn.code x) (emit (flow section_end) 0 nothing)
        (omega (arith, turn.long x, turn.counts x)) (turn.wrote x)
        (end-wrote edition s (ys x) zs (count_in p x) e))

    closed-count : (x : Section) → count_in p x + 1 ≡ length (section_code x (turn.whole []))
    unfolding section_code parts_of size_of
    closed-count x =
        omega (
          arith,
          length-append (compile_statement (parts_of x (turn.whole [])) 0) (emit (flow section_end) 0 nothing),
          statement-length (parts_of x (turn.whole [])) 0,
          turn.sized x [],
          turn.counts x,
        )

    pub program-done : (q : Program) (zs : Section → List ℕ) → p.token.kind ≡ 0 → q.outcome ≡ 0
        → ((x : Section) → count_in q x ≡ count_in p x + 1)
        → ((x : Section) → zs x ≡ sets (ys x) (count_in p x) (word 0 0 0 ∷ []))
        → ReadingProgram edition s xs (read_program edition s) q zs
    unfolding ReadingProgram rank
    program-done q zs k z counts stored =
        let at-end : is text_end turn.next ≡ true = eq-eqb (rank turn.next.kind) 0 (sym kind-is ∙ k) in
        subst (λ (R : Result Tree). ReadingProgram edition s xs R q zs)
        (left_is (ok [] turn.next) (items-end has_left.0 turn.next at-end))
        (record {
          outcome = z;
          counts = λ x. counts x ∙ closed-count x;
          wrote = λ x. closed-section x (zs x) (stored x);
        })

    -- ---- an item

    module _ (k : p.token.kind ≡ 0 → ⊥) (small : length s ≤ filter_text) where
      not_end : is text_end turn.next ≡ false
      unfolding rank
      not_end = ne_eqb (rank turn.next.kind) 0 (λ z. k (kind-is ∙ z))

      pub program-onward : Onward edition s p
      program-onward =
          let h = token-ready edition s p.token turn.next 0 turn.token turn.good in
          record {
            good = h.0;
            known = h.1;
            small = small;
            counts = λ x. omega (arith, turn.counts x, turn.tight not_end x, start_is);
          }

      rest-is : (R : Result Item) → item_at edition s (decoded p.token) ≡ R
          → map turn.whole (More has_left.0 R) ≡ read_program edition s
      rest-is R e =
          left_is (More has_left.0 R)
          (items_more has_left.0 turn.next not_end
          ∙ ap (More has_left.0) (ap (item_at edition s) (sym (decoded-back p.token turn.next turn.token))
          ∙ e))

      module _ (q : Program) (zs : Section → List ℕ)
          (w : ReadingItem edition s (decoded p.token) p ys (item_at edition s (decoded p.token)) q zs) where
        pub program-failed : (q.outcome ≡ 0 → ⊥) → ReadingProgram edition s xs (read_program edition s) q zs
        unfolding ReadingItem ReadingProgram
        program-failed z = go (item_at edition s (decoded p.token)) refl w
          where
            go : (R : Result Item) → item_at edition s (decoded p.token) ≡ R
                → ReadingItem edition s (decoded p.token) p ys R q zs
                → ReadingProgram edition s xs (read_program edition s) q zs
            go (ok i u) e h = absurd (z h.outcome)
            go (no o x) e h = subst (λ (R : Result Tree). ReadingProgram edition s xs R q zs) (rest-is (no o x) e) h

        -- the item that was read
        pub record Got : Type 0 where
          pub tree : Item
          pub next : Token
          pub result : item_at edition s (decoded p.token) ≡ ok tree next
          pub reads : ReadItem edition s (decoded p.token) p ys tree next q zs

        module _ (z : q.outcome ≡ 0) where
          got : Got
          unfolding ReadingItem
          got = go (item_at edition s (decoded p.token)) refl w
            where
              go : (R : Result Item) → item_at edition s (decoded p.token) ≡ R
                  → ReadingItem edition s (decoded p.token) p ys R q zs → Got
              go (ok i u) e h = record { tree = i; next = u; result = e; reads = h }
              go (no o x) e h = absurd (h.some_outcome (sym h.answer ∙ z))

          pub item-ready : Good edition s 0 (decoded q.token) × (q.token.kind < kind_count)
          item-ready = token-ready edition s q.token got.next 0 got.reads.token got.reads.good

          module _ (u : Coded) (ue : u ≡ coded (past edition s (passing true) (decoded q.token))) where
            past_is : u ≡ coded (past edition s enders got.next)
            past_is = ue ∙ ap (λ (y : Token). coded (past edition s enders y))
                (decoded-back q.token got.next got.reads.token)

            pub passed-ready : (u.kind < kind_count) × (u.start ≤ length s)
            passed-ready =
                let g = good-past edition s 0 enders (length s) got.next got.reads.good in (
                  omega (
                    arith,
                    ap (λ (y : Coded). y.kind) past_is,
                    kind-below
                        (past edition s enders got.next).kind,
                  ),
                  omega (arith, ap (λ (y : Coded). y.start) past_is, g.ordered, g.within),
                )

            module _ (v : Coded) (ve : v ≡ coded (as_operand edition s (decoded u))) where
              abbrev after : Token
              after = Onto edition s got.next

              after_is : v ≡ coded after
              after_is = ve ∙ ap (λ (y : Token). coded (as_operand edition s y))
                  (decoded-back u (past edition s enders got.next) past_is)

              after-good : Good edition s got.next.start after
              after-good = onto-good edition s got.next (here edition s got.reads.good)

              pub program-nearer : length s - v.start < length s - p.token.start
              program-nearer =
                  omega (
                    arith,
                    ap (λ (y : Coded). y.start) after_is,
                    after-good.after,
                    after-good.ordered,
                    after-good.within,
                    got.reads.further,
                  )

              -- how many instructions an item's part has
              part-bound : (x : Section) → turn.size x + size_of (part_of x got.tree) ≤ 8 * got.next.start + 3
              part-bound x = omega (arith, turn.tight not_end x, (got.reads.put x).bound, start_is)

              part-tight : (x : Section) → is_one_of (text_end ∷ enders) got.next ≡ false
                  → turn.size x + size_of (part_of x got.tree) ≤ 8 * got.next.start
              part-tight x e = omega (arith, turn.tight not_end x, (got.reads.put x).tight e, start_is)

              after-tight : is text_end after ≡ false → (x : Section)
                  → turn.size x + size_of (part_of x got.tree) ≤ 8 * after.start
              unfolding among
              after-tight e x = go (is text_end got.next) (is_one_of enders got.next) refl refl
                where
                  go : (a b : Bool) → is text_end got.next ≡ a → is_one_of enders got.next ≡ b
                      → turn.size x + size_of (part_of x got.tree) ≤ 8 * (Onto edition s got.next).start
                  go true b ea eb = absurd (clash
                      (sym ea ∙ (ap (is text_end) (sym (onto-stays edition s got.next ea)) ∙ e)))
                  go false true ea eb = omega (
                    arith,
                    part-bound x,
                    onto-end edition s got.next
                        (here edition s got.reads.good) eb,
                  )
                  go false false ea eb = omega (arith, part-tight x (rw (ea, eb)), after-good.after)

              pub program-more : (r : Program) → r.token ≡ v → ((x : Section) → count_in r x ≡ count_in q x)
                  → ProgramTurn xs r zs
              unfolding parts_of size_of compile_statement
              program-more r re kept =
                  let i : Item = got.tree in
                  record {
                    whole = λ l. turn.whole (i ∷ l);
                    size = λ x. turn.size x + size_of (part_of x i);
                    code = λ x. turn.code x ++ compile_statement (part_of x i) (turn.size x);
                    sized = λ x l. omega (arith, turn.sized x (i ∷ l));
                    compiled = λ x l. more-code x l;
                    long = λ x. omega (
                      arith,
                      length-append (turn.code x) (compile_statement (part_of x i) (turn.size x)),
                      turn.long x,
                      statement-length (part_of x i) (turn.size x),
                    );
                    next = after;
                    token = re ∙ after_is;
                    counts = λ x. omega (arith, kept x, (got.reads.put x).count, turn.counts x);
                    good = lower edition s (omega arith) after-good;
                    bound = λ x. omega (arith, part-bound x, after-good.after);
                    tight = after-tight;
                    left = has_left.0;
                    enough = omega (arith, turn.enough, has_left.1, got.reads.further, start_is, after-good.after);
                    same =
                        more_same
                        ∙ rest-is (ok i got.next) got.result;
                    wrote = λ x. more-wrote x;
                  }
                where
                  more-code : (x : Section) (l : Tree) → compile_statement (parts_of x (turn.whole (got.tree ∷ l))) 0
                      ≡ (turn.code x ++ compile_statement (part_of x got.tree) (turn.size x))
                      ++ compile_statement (parts_of x l) (turn.size x + size_of (part_of x got.tree))
                  more-code x l =
                      turn.compiled x (got.tree ∷ l)
                      ∙ sym (append_assoc (turn.code x) (compile_statement (part_of x got.tree) (turn.size x))
                      (compile_statement (parts_of x l) (turn.size x + size_of (part_of x got.tree))))

                  map-twice : (R : Result Tree) → map (λ l. turn.whole (got.tree ∷ l)) R
                      ≡ map turn.whole (map (λ l. got.tree ∷ l) R)
                  map-twice (ok l y) = refl
                  map-twice (no o y) = refl

                  more_same : map (λ l. turn.whole (got.tree ∷ l)) (items edition s has_left.0 after)
                      ≡ map turn.whole (More has_left.0 (ok got.tree got.next))
                  more_same = map-twice (items edition s has_left.0 after)

                  more-wrote : (x : Section)
                      → Wrote edition s (xs x) 0 (turn.code x ++ compile_statement (part_of x got.tree)
                      (turn.size x)) (zs x)
                  more-wrote x =
                      wrote_after edition s (xs x) (ys x) (zs x) 0 (turn.size x) (turn.code x)
                      (compile_statement (part_of x got.tree) (turn.size x)) (omega (arith, turn.long x))
                      (turn.wrote x)
                      (subst (λ (n : ℕ). Wrote edition s (ys x) n (compile_statement (part_of x got.tree) n) (zs x))
                      (turn.counts x)
                      (got.reads.put x).wrote)
