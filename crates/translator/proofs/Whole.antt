-- A program that was read: what its tables hold, and the image that tables and words stand for.
use mathlib.Core.Path.{◌≡◌, refl, sym, ap, subst, ◌∙◌}
use mathlib.Core.Bool.{Bool, true, false, cond, ◌&&◌}
use mathlib.Core.List.{List, [], ◌∷◌, ◌++◌, map, map-append, append_assoc}
use Prim.Native.Nat.{ℕ, ◌+◌, ◌-◌, ◌*◌, ◌≤◌}
use native.Mathlib.Omega.{arith}
use lib.ListN.{length, take, length-append, length-map}
use lib.Dec.{leb, ltb}
use borrow.Author.Tests.{lt-leb, ltb-true, ltb-false, leb-true}
use Rattle.lists.specs.Elements.{all}
use Rattle.lists.proofs.Tests.{clash, and-false}
use Rattle.edition.specs.Limits.{constant_count, ere_count}
use Rattle.edition.specs.Outcomes.{size_passed}
use Rattle.image_format.specs.Image.{Constant, text, Image, Instruction}
use Rattle.image_format.specs.Writing.{bytes_of}
use Rattle.semantics.specs.Check.{small_constant}
use Rattle.semantics.specs.Variables.{special_count}
use Rattle.semantics.specs.Moves.{begin, main, end}
use Rattle.program_tree.specs.Tree.{Program}
use Rattle.program_reader.specs.Programs.{read_program}
use Rattle.program_code.specs.Emitted.{Operand, Emitted}
use Rattle.program_code.specs.Sections.{section_code}
use Rattle.program_parser.specs.Meaning.{Spell}
use Rattle.program_numbering.specs.Names.{with_new, users_of}
use Rattle.program_numbering.specs.Numbering.{special_names, same_constant, constant_in, ere_in, operands_by, all_code, Tables, tables_of, instructions, image_by, image_of}
use Rattle.program_numbering.specs.Sizes.{fits}
use Rattle.program_numbering.proofs.Numbers.{Each, each-join}
use Rattle.program_tables.specs.Tables.{entries_from}
use Rattle.program_entries.specs.Variables.{specials, Held, variables_of}
use Rattle.program_image.specs.Written.{AllSmall, text_of, instruction_of}
use Rattle.program_image.specs.Pictured.{image_in, Tabled, Sectioned}
use Rattle.program_image.specs.Fitting.{counts_fit, lengths_fit, sections_fit}
use Rattle.program_image.proofs.Judged.{fits-apart, counts-within}
use Rattle.program_numberer.specs.Numbered.{Holds, things, numbered, list_after, ProgramNumbered, ProgramNumbers}
use Rattle.program_numberer.proofs.Lists.{none-new}
use Rattle.program_numberer.proofs.Entering.{size, entries-length}
use Rattle.translation.specs.Translation.{refused, stored, sized, of_program}
use Rattle.translator.specs.ReadAs.{ReadAs}
use Rattle.translator.specs.Tabulated.{Tabulated}
use Rattle.translator.proofs.Agreeing.{Agrees, section-agrees}
use Rattle.translator.proofs.Texts.{texts, texts-back, new-eres, variables-are}
use Rattle.translator.proofs.Spelled.{Few, Listed, constants-named, eres-named, variables-named, instructions-are}

-- ---- a table of n holds a list: both are within a size, or neither is

module _ (s : List ℕ) (escapes : Bool) (table : List ℕ) (n : ℕ) (l : List Constant) (h : Held s escapes table n l) where
  held-size : 2 * n ≤ length table → length l ≡ n
  held-size fits = ap length (sym (h.few fits).0) ∙ entries-length s escapes table 0 n

  pub same-judged : (most : ℕ) → length table ≡ 2 * most → leb n most ≡ leb (length l) most
  same-judged most e = go (ltb (length table) (2 * n)) refl
    where
      go : (x : Bool) → ltb (length table) (2 * n) ≡ x → leb n most ≡ leb (length l) most
      go true g =
          let over = ltb-true (length table) (2 * n) g in
          let long = h.many over in
          lt-leb n most (omega (arith, over, e)) ∙ sym (lt-leb (length l) most (omega (arith, long, e)))
      go false g =
          let within = ltb-false (length table) (2 * n) g in
          ap (λ (k : ℕ). leb k most) (sym (held-size within))

operands-append : {A : Type 0} (f : Operand → List A) (l m : List Emitted)
    → operands_by f (l ++ m) ≡ operands_by f l ++ operands_by f m
unfolding operands_by
operands-append f [] m = refl
operands-append f (i ∷ l) m =
    ap (λ (k : List _). f i.operand ++ k) (operands-append f l m)
    ∙ sym (append_assoc (f i.operand) (operands_by f l) (operands_by f m))

module _ (edition : ℕ) (s : List ℕ) (B M D : List ℕ) (read : ReadAs edition s B M D) where
  abbrev P : Program
  P = read.program

  abbrev Users : List (List ℕ)
  Users = users_of edition P

  abbrev Variables : List Constant
  Variables = specials ++ texts Users

  abbrev T : Tables
  T = tables_of edition P

  abbrev cb : List Emitted
  cb = section_code begin P

  abbrev cm : List Emitted
  cm = section_code main P

  abbrev cd : List Emitted
  cd = section_code end P

  abbrev AllAgree : List Emitted → Type 0
  AllAgree is = Each (Agrees (special_names ++ Users)) is

  agree-b : AllAgree cb
  agree-b = section-agrees edition s P read.token read.reads begin

  agree-m : AllAgree cm
  agree-m = section-agrees edition s P read.token read.reads main

  agree-d : AllAgree cd
  agree-d = section-agrees edition s P read.token read.reads end

  parts : {A : Type 0} (f : Operand → List A)
      → operands_by f cb ++ (operands_by f cm ++ operands_by f cd) ≡ operands_by f (all_code P)
  parts f =
      ap (λ (k : List _). operands_by f cb ++ k) (sym (operands-append f cm cd))
      ∙ sym (operands-append f cb (cm ++ cd))

  variables-list : variables_of edition s ≡ Variables
  variables-list = variables-are edition s P read.token read.reads

  variables-length : length Variables ≡ 7 + length Users
  variables-length = length-append specials (texts Users) ∙ ap (λ (n : ℕ). 7 + n) (length-map Users text)

  three-parts : {A : Type 0} {a b c a' b' c' : List A} → a ≡ a' → b ≡ b' → c ≡ c' → a ++ (b ++ c) ≡ a' ++ (b' ++ c')
  three-parts e f g = rw (e, f, g)

  texts-parts : (a b c : List (List ℕ)) → texts a ++ (texts b ++ texts c) ≡ texts (a ++ (b ++ c))
  texts-parts a b c =
      ap (λ (k : List Constant). texts a ++ k) (sym (map-append text b c)) ∙ sym (map-append text a (b ++ c))

  -- ---- the lists, pass by pass

  constants-list : list_after edition s 0 [] B M D ≡ T.constants
  unfolding tables_of
  constants-list =
      ap (with_new same_constant [])
      (three-parts (constants-named edition s Users read.begin_spelled agree-b)
      (constants-named edition s Users read.main_spelled agree-m)
      (constants-named edition s Users read.end_spelled agree-d)
      ∙ parts constant_in)

  module _ (few-c : Few T.constants) where
    abbrev first : ℕ → ℕ
    first = numbered edition s 0 T.constants

    eres-list : list_after edition s 2 [] (map first B) (map first M) (map first D) ≡ texts T.eres
    unfolding tables_of
    eres-list =
        ap (with_new same_constant [])
        (three-parts (eres-named edition s Users T.constants few-c read.begin_spelled agree-b)
        (eres-named edition s Users T.constants few-c read.main_spelled agree-m)
        (eres-named edition s Users T.constants few-c read.end_spelled agree-d)
        ∙ (texts-parts (operands_by ere_in cb) (operands_by ere_in cm) (operands_by ere_in cd) ∙ ap texts (parts ere_in)))
        ∙ new-eres (operands_by ere_in (all_code P))

    module _ (few-e : Few (texts T.eres)) where
      abbrev second : ℕ → ℕ
      second = numbered edition s 2 (texts T.eres)

      abbrev twice : List ℕ → List ℕ
      twice ws = map second (map first ws)

      twice-listed : {ws : List ℕ} {is : List Emitted} → Spell edition s ws is → AllAgree is
          → Each (Listed edition s Users) (things edition s 1 (twice ws))
      twice-listed h a = variables-named edition s Users T.constants few-c T.eres few-e h a

      variables-same : list_after edition s 1 Variables (twice B) (twice M) (twice D) ≡ Variables
      variables-same =
          let ends = each-join (Listed edition s Users) (things edition s 1 (twice M)) (things edition s 1 (twice D))
          (twice-listed read.main_spelled agree-m) (twice-listed read.end_spelled agree-d) in
          none-new same_constant _ Variables
          (each-join (Listed edition s Users) (things edition s 1 (twice B))
          (things edition s 1 (twice M) ++ things edition s 1 (twice D)) (twice-listed read.begin_spelled agree-b)
          ends)

      module _ (few-v : Few Variables) where
        abbrev thrice : List ℕ → List ℕ
        thrice ws = map (numbered edition s 1 Variables) (twice ws)

        code_is : {ws : List ℕ} {is : List Emitted} → Spell edition s ws is → AllAgree is
            → map instruction_of (thrice ws) ≡ instructions T is
        unfolding tables_of
        code_is h a = instructions-are edition s Users T.constants few-c T.eres few-e few-v h a

  -- ---- the tables, as the passes leave them

  module _ (B1 M1 D1 ct0 ct : List ℕ) (c : ℕ) (one : ProgramNumbered edition s 0 [] B M D B1 M1 D1 ct0 ct c)
      (room-c0 : length ct0 ≡ 128) (room-c : length ct ≡ 128) where
    constants-held : Holds s true ct c T.constants
    constants-held = subst (Holds s true ct c) constants-list one.holds

    constants-judged : leb c constant_count ≡ leb (length T.constants) constant_count
    constants-judged = same-judged s true ct c T.constants constants-held.held constant_count room-c

    module _ (few : c ≤ constant_count) where
      constants-few : Few T.constants
      constants-few = omega (arith, few, size s true ct c T.constants constants-held (omega (arith, few, room-c)))

      first-words : (B1 ≡ map (first constants-few) B) × (M1 ≡ map (first constants-few) M)
          × (D1 ≡ map (first constants-few) D)
      first-words =
          let enough : 2 * c ≤ length ct0 = omega (arith, few, room-c0) in
          let by : (l : List ℕ)
          → map (numbered edition s 0 (list_after edition s 0 [] B M D)) l ≡ map (first constants-few) l =
          λ l. ap (λ (k : List Constant). map (numbered edition s 0 k) l) constants-list in
          (one.begin-words enough ∙ by B, one.main_words enough ∙ by M, one.end_words enough ∙ by D)

    module _ (B2 M2 D2 et0 et : List ℕ) (e : ℕ) (two : ProgramNumbered edition s 2 [] B1 M1 D1 B2 M2 D2 et0 et e)
        (room-e0 : length et0 ≡ 32) (room-e : length et ≡ 32) where
      module _ (few : c ≤ constant_count) where
        eres-after : list_after edition s 2 [] B1 M1 D1 ≡ texts T.eres
        eres-after =
            let w = first-words few in
            ap (with_new same_constant [])
            (three-parts (ap (things edition s 2) w.0) (ap (things edition s 2) w.1)
            (ap (things edition s 2) w.2))
            ∙ eres-list (constants-few few)

        eres-held : Holds s false et e (texts T.eres)
        eres-held = subst (Holds s false et e) eres-after two.holds

        eres-judged : leb e ere_count ≡ leb (length T.eres) ere_count
        eres-judged =
            same-judged s false et e (texts T.eres) eres-held.held ere_count room-e
            ∙ ap (λ (n : ℕ). leb n ere_count) (length-map T.eres text)

        module _ (few-er : e ≤ ere_count) where
          eres-few : Few (texts T.eres)
          eres-few =
              omega (arith, few-er, size s false et e (texts T.eres) eres-held (omega (arith, few-er, room-e)))

          second-words : (B2 ≡ twice (constants-few few) eres-few B) × (M2 ≡ twice (constants-few few) eres-few M)
              × (D2 ≡ twice (constants-few few) eres-few D)
          second-words =
              let enough : 2 * e ≤ length et0 = omega (arith, few-er, room-e0) in
              let w = first-words few in
              let by : (l k : List ℕ) → l ≡ k
              → map (numbered edition s 2 (list_after edition s 2 [] B1 M1 D1)) l
              ≡ map (second (constants-few few) eres-few) k =
              λ l k h. ap (map (numbered edition s 2 (list_after edition s 2 [] B1 M1 D1))) h
              ∙ ap (λ (m : List Constant). map (numbered edition s 2 m) k) eres-after in (
                two.begin-words enough ∙ by B1 _ w.0,
                two.main_words enough ∙ by M1 _ w.1,
                two.end_words enough ∙ by D1 _ w.2,
              )

      module _ (vt : List ℕ) (v : ℕ) (held-v : Held s false vt v (variables_of edition s))
          (room-v : length vt ≡ 64) where
        variables-held : Held s false vt v Variables
        variables-held = subst (Held s false vt v) variables-list held-v

        variables-judged : leb v 32 ≡ leb (length Variables) 32
        variables-judged = same-judged s false vt v Variables variables-held 32 room-v

        three-same : (a a' b b' d d' : Bool) → a ≡ a' → b ≡ b' → (b ≡ true → d ≡ d')
            → (a && (b && d)) ≡ (a' && (b' && d'))
        three-same a a' true b' d d' e f g = rw (e, ← f, g refl)
        three-same a a' false b' d d' e f g = rw (e, ← f)

        -- the sizes of the tables are judged as those of the image
        counts_same : counts_fit edition v c e
            ≡ counts_fit edition (special_count edition + length Users) (length T.constants) (length T.eres)
        unfolding special_count
        counts_same =
            three-same (leb v 32) (leb (7 + length Users) 32) (leb c constant_count)
            (leb (length T.constants) constant_count) (leb e ere_count) (leb (length T.eres) ere_count)
            (variables-judged ∙ ap (λ (n : ℕ). leb n 32) variables-length) constants-judged
            (λ h. eres-judged (leb-true c constant_count h))

        counts-over : counts_fit edition v c e ≡ false → fits (image_of edition P) ≡ false
        unfolding image_by
        counts-over h =
            let i : Image = image_of edition P in
            fits-apart i
            ∙ (ap (λ (x : Bool). lengths_fit (length i.begin) (length i.main) (length i.end)
            && (x && (sections_fit i.begin i.main i.end && all small_constant i.constants)))
            (sym counts_same ∙ h)
            ∙ and-false (lengths_fit (length i.begin) (length i.main) (length i.end)))

        module _ (counts : counts_fit edition v c e ≡ true) where
          within : (v ≤ 32) × (c ≤ constant_count) × (e ≤ ere_count)
          unfolding special_count
          within = counts-within edition v c e counts

          variables-size : v ≡ 7 + length Users
          variables-size =
              let fit : 2 * v ≤ length vt = omega (arith, within.0, room-v) in
              sym (held-size s false vt v Variables variables-held fit) ∙ variables-length

          -- what is asked for of tables that are to be written
          pub ready : (special_count edition ≤ v) × Tabled s ct c × AllSmall ct c × Tabled s et e
          unfolding special_count
          ready =
              let fit-c : 2 * c ≤ length ct = omega (arith, within.1, room-c) in
              let fit-e : 2 * e ≤ length et = omega (arith, within.2, room-e) in (
                omega (arith, variables-size),
                record { room = fit-c; inside = (constants-held.held.few fit-c).1 },
                λ k h z. constants-held.bounded refl fit-c k h,
                record { room = fit-e; inside = ((eres-held within.1).held.few fit-e).1 },
              )

          module _ (B3 M3 D3 vt' : List ℕ) (r : ℕ) (three : ProgramNumbers edition s 1 B2 M2 D2 B3 M3 D3 vt v vt' r)
              (room-v' : length vt' ≡ 64) where
            few-c : Few T.constants
            few-c = constants-few within.1

            few-e : Few (texts T.eres)
            few-e = eres-few within.1 within.2

            few-v : Few Variables
            few-v = omega (arith, within.0, variables-size, variables-length)

            passed : ProgramNumbered edition s 1 Variables B2 M2 D2 B3 M3 D3 vt vt' r
            passed = three Variables (record { held = variables-held; bounded = λ t. absurd (clash (sym t)) })

            variables-after : list_after edition s 1 Variables B2 M2 D2 ≡ Variables
            variables-after =
                let w = second-words within.1 within.2 in
                ap (with_new same_constant Variables)
                (three-parts (ap (things edition s 1) w.0) (ap (things edition s 1) w.1)
                (ap (things edition s 1) w.2))
                ∙ variables-same few-c few-e

            variables-kept : Held s false vt' r Variables
            variables-kept = (subst (λ (l : List Constant). Holds s false vt' r l) variables-after passed.holds).held

            enough-v : 2 * r ≤ length vt
            enough-v = go (ltb (length vt') (2 * r)) refl
              where
                go : (x : Bool) → ltb (length vt') (2 * r) ≡ x → 2 * r ≤ length vt
                go true g =
                    let long = variables-kept.many (ltb-true (length vt') (2 * r) g) in
                    absurd (omega (arith, long, room-v', within.0, variables-size, variables-length))
                go false g =
                    let less = ltb-false (length vt') (2 * r) g in
                    omega (arith, less, room-v, room-v')

            third-by : (l k : List ℕ) → l ≡ twice few-c few-e k
                → map (numbered edition s 1 (list_after edition s 1 Variables B2 M2 D2)) l ≡ thrice few-c few-e few-v k
            third-by l k h =
                ap (map (numbered edition s 1 (list_after edition s 1 Variables B2 M2 D2))) h
                ∙ ap (λ (m : List Constant). map (numbered edition s 1 m) (twice few-c few-e k)) variables-after

            third-words : (B3 ≡ thrice few-c few-e few-v B) × (M3 ≡ thrice few-c few-e few-v M)
                × (D3 ≡ thrice few-c few-e few-v D)
            third-words =
                let w = second-words within.1 within.2 in (
                  passed.begin-words enough-v ∙ third-by B2 B w.0,
                  passed.main_words enough-v ∙ third-by M2 M w.1,
                  passed.end_words enough-v ∙ third-by D2 D w.2,
                )

            pictured : {u u' : ℕ} {k k' : List Constant} {q q' : List (List ℕ)} {x x' y y' z z' : List Instruction}
                → u ≡ u' → k ≡ k' → q ≡ q' → x ≡ x' → y ≡ y' → z ≡ z'
                → ◌≡◌ {A = Image}
                (record { edition = edition; users = u; constants = k; eres = q; begin = x; main = y; end = z })
                (record { edition = edition; users = u'; constants = k'; eres = q'; begin = x'; main = y'; end = z' })
            pictured e f g h i j = rw (e, f, g, h, i, j)

            -- tables and words stand for the program's image
            image-is : (begin3 main3 end3 : List ℕ) (nb nm nd : ℕ) → take nb begin3 ≡ B3 → take nm main3 ≡ M3
                → take nd end3 ≡ D3
                → image_in edition (v - special_count edition) s ct c et e begin3 nb main3 nm end3 nd ≡ image_of edition P
            unfolding image_in image_by special_count
            image-is begin3 main3 end3 nb nm nd hb hm hd =
                let w = third-words in
                let fit-c : 2 * c ≤ length ct = omega (arith, within.1, room-c) in
                let fit-e : 2 * e ≤ length et = omega (arith, within.2, room-e) in
                let users : v - 7 ≡ length Users = omega (arith, variables-size) in
                pictured users (constants-held.held.few fit-c).0
                (ap (map text_of) ((eres-held within.1).held.few fit-e).0 ∙ texts-back T.eres)
                (ap (map instruction_of) (hb ∙ w.0) ∙ code_is few-c few-e few-v read.begin_spelled agree-b)
                (ap (map instruction_of) (hm ∙ w.1) ∙ code_is few-c few-e few-v read.main_spelled agree-m)
                (ap (map instruction_of) (hd ∙ w.2) ∙ code_is few-c few-e few-v read.end_spelled agree-d)

        -- ---- what is answered

        program-sized : (room : List ℕ)
            → sized room s (image_of edition P) ≡ of_program room edition s (read_program edition s)
        unfolding of_program
        program-sized room = ap (of_program room edition s) (sym read.reads)

        pub answered : (room B3 M3 D3 vt' : List ℕ) (r : ℕ) → ProgramNumbers edition s 1 B2 M2 D2 B3 M3 D3 vt v vt' r
            → length vt' ≡ 64 → (begin3 main3 end3 : List ℕ) (nb nm nd : ℕ) → take nb begin3 ≡ B3 → take nm main3 ≡ M3
            → take nd end3 ≡ D3
            → cond (counts_fit edition v c e)
            (sized room s (image_in edition (v - special_count edition) s ct c et e begin3 nb main3 nm end3 nd))
            (refused room size_passed (length s))
            ≡ of_program room edition s (read_program edition s)
        unfolding sized
        answered room B3 M3 D3 vt' r three room-v' begin3 main3 end3 nb nm nd hb hm hd =
            go (counts_fit edition v c e) refl ∙ program-sized room
          where
            i : Image
            i = image_in edition (v - special_count edition) s ct c et e begin3 nb main3 nm end3 nd

            go : (x : Bool) → counts_fit edition v c e ≡ x
                → cond x (sized room s i) (refused room size_passed (length s)) ≡ sized room s (image_of edition P)
            go true h =
                ap (sized room s) (image-is h B3 M3 D3 vt' r three room-v' begin3 main3 end3 nb nm nd hb hm hd)
            go false h = sym (over (fits (image_of edition P)) (counts-over h))
              where
                over : (y : Bool) → y ≡ false
                    → cond y (stored room s (bytes_of (image_of edition P))) (refused room size_passed (length s))
                    ≡ refused room size_passed (length s)
                over y k = rw k

-- ---- from what the passes leave

-- a table of none holds nothing
pub none-held : (s : List ℕ) (escapes : Bool) (table : List ℕ) → Holds s escapes table 0 []
unfolding entries_from
none-held s escapes table =
    record {
      held = record { few = λ g. (refl, λ k h. absurd (omega (arith, h))); many = λ g. absurd (omega (arith, g)) };
      bounded = λ t g k h. absurd (omega (arith, h));
    }

pub variables-hold : (s table : List ℕ) (n : ℕ) (l : List Constant) → Held s false table n l → Holds s false table n l
variables-hold s table n l h = record { held = h; bounded = λ t. absurd (clash (sym t)) }

pub still-sectioned : (section section' : List ℕ) (n : ℕ) → Sectioned section n → length section' ≡ length section
    → Sectioned section' n
still-sectioned section section' n h e = record { room = omega (arith, h.room, e); few = h.few }

module _ (edition : ℕ) (s B M D : List ℕ) (read : ReadAs edition s B M D) (B3 M3 D3 ct et : List ℕ) (v c e : ℕ)
    (t : Tabulated edition s B M D B3 M3 D3 ct et v c e) where
  pub tabulated-ready : counts_fit edition v c e ≡ true
      → (special_count edition ≤ v) × Tabled s ct c × AllSmall ct c × Tabled s et e
  tabulated-ready h =
      ready edition s B M D read t.begin1 t.main1 t.end1 t.constants0 ct c t.first t.constants0_room
      t.constants_room t.begin2 t.main2 t.end2 t.eres0 et e t.second t.eres0_room t.eres_room
      t.variables v t.held t.variables_room h

  pub tabulated-answer : (room begin3 main3 end3 : List ℕ) (nb nm nd : ℕ) → take nb begin3 ≡ B3 → take nm main3 ≡ M3
      → take nd end3 ≡ D3
      → cond (counts_fit edition v c e)
      (sized room s (image_in edition (v - special_count edition) s ct c et e begin3 nb main3 nm end3 nd))
      (refused room size_passed (length s))
      ≡ of_program room edition s (read_program edition s)
  tabulated-answer room begin3 main3 end3 nb nm nd hb hm hd =
      answered edition s B M D read t.begin1 t.main1 t.end1 t.constants0 ct c t.first
      t.constants0_room t.constants_room t.begin2 t.main2 t.end2 t.eres0 et e t.second
      t.eres0_room t.eres_room t.variables v t.held t.variables_room room B3 M3 D3 t.variables'
      t.after t.third t.variables'_room begin3 main3 end3 nb nm nd hb hm hd
