-- The image that a text is translated to has bytes, so that its bytes are read as that image.
use mathlib.Core.Path.{◌≡◌, refl, ap}
use mathlib.Core.Bool.{true}
use mathlib.Core.List.{List, [], ◌∷◌}
use mathlib.Core.Option.{some}
use Prim.Native.Nat.{ℕ, suc, ◌≤◌, ◌<◌}
use native.Mathlib.Omega.{arith}
use lib.ListN.{length}
use Rattle.lists.specs.Elements.{nth, Every, empty, cons}
use Rattle.lists.proofs.Elements.{every_of}
use Rattle.edition.specs.Limits.{number_bound, instruction_count}
use Rattle.image_format.specs.Codes.{ImmediateKind}
use Rattle.image_format.specs.Image.{Constant, number, text, Instruction, Image, known}
use Rattle.image_format.specs.Formed.{Small, FormedConstant, FormedInstruction, Formed}
use Rattle.image_format.specs.Reading.{read_image, from_bytes}
use Rattle.image_format.specs.Writing.{bytes_of}
use Rattle.image_format.proofs.Sources.{bytes-agree}
use Rattle.image_format.proofs.Images.{read-written}
use Rattle.semantics.specs.Moves.{Section, begin, main, end, section_of}
use Rattle.semantics.specs.Checked.{AllExist, Short, Checked}
use Rattle.semantics.proofs.Checks.{check-exactly}
use Rattle.semantics.proofs.ImageSizes.{instruction-small, ere-short}
use Rattle.program_tokens.specs.Tokens.{Token}
use Rattle.program_tree.specs.Tree.{Program}
use Rattle.program_reader.specs.Read.{ok}
use Rattle.program_reader.specs.Programs.{read_program}
use Rattle.program_reader.proofs.Tokens.{Bytes, Spelled, Said}
use Rattle.program_numbering.specs.Numbering.{tables_of, image_by, image_of}
use Rattle.program_numbering.specs.Sizes.{fits}
use Rattle.program_numbering.proofs.Numbers.{each_at}
use Rattle.translation.proofs.Passes.{program-fine, eres-spelled, constants-said, compiled-passes}

-- ---- an image that passes the check has bytes if its constants and EREs have

abbrev Holds : Constant → Type 0
Holds (number n) = n ≤ number_bound
Holds (text l) = Bytes l

module _ (i : Image) (ok : Checked i) where
  exist-length : (s : Section) (ks : List ImmediateKind) (ns : List ℕ) → AllExist i s ks ns → length ns ≡ length ks
  exist-length s [] [] x = refl
  exist-length s [] (n ∷ ns) x = absurd x
  exist-length s (k ∷ ks) [] x = absurd x
  exist-length s (k ∷ ks) (n ∷ ns) x = ap suc (exist-length s ks ns x.1)

  few-small : (ns : List ℕ) → Every (λ n. n < instruction_count) ns → Every Small ns
  few-small [] e = empty
  few-small (n ∷ ns) (cons x e) = let h : Small n = omega arith in cons h (few-small ns e)

  instruction-formed : (s : Section) (n : ℕ) (j : Instruction) → nth (section_of i s) n ≡ some j
      → FormedInstruction i.edition j
  instruction-formed s n j h =
      let a = ok.each_one s n j h in
      let x = instruction-small i ok s n j h in
      record {
        row = a.row;
        has = a.code;
        code = omega (arith, x.code);
        depth = omega (arith, x.depth);
        many = exist-length s a.row.immediates j.immediates a.exist;
        immediates = few-small j.immediates x.numbers;
      }

  constant-formed : (a : Constant) → Short a → Holds a → FormedConstant a
  constant-formed (number n) x h = h
  constant-formed (text l) x h = (omega (arith, x), h)

  pub checked-formed : known i.edition ≡ true → ((n : ℕ) (a : Constant) → nth i.constants n ≡ some a → Holds a)
      → ((n : ℕ) (l : List ℕ) → nth i.eres n ≡ some l → Bytes l) → Formed i
  checked-formed edition constants eres =
      record {
        edition = edition;
        users = omega (arith, ok.users);
        constants = (
          omega (arith, ok.constants),
          every_of i.constants (λ n a h. constant-formed a (ok.texts n a h) (constants n a h)),
        );
        eres = (
          omega (arith, ok.eres),
          every_of i.eres (λ n l h. (omega (arith, ere-short i ok n l h), eres n l h)),
        );
        begin = (omega (arith, ok.few begin), every_of i.begin (instruction-formed begin));
        main = (omega (arith, ok.few main), every_of i.main (instruction-formed main));
        end = (omega (arith, ok.few end), every_of i.end (instruction-formed end));
      }

-- ---- the image of a text

module _ (s : List ℕ) (bytes : Bytes s) (p : Program) (t : Token) (reads : read_program 1 s ≡ ok p t) where
  said-holds : (a : Constant) → Said 1 s a → Holds a
  said-holds (number n) h = h
  said-holds (text l) h = h bytes

  pub compiled-formed : fits (image_of 1 p) ≡ true → Formed (image_of 1 p)
  unfolding image_by
  compiled-formed small =
      let fine = program-fine s p t reads in
      checked-formed (image_of 1 p) ((check-exactly (image_of 1 p)).0 (compiled-passes s p t reads small)) refl
      (λ n a h. said-holds a (each_at (Said 1 s) (tables_of 1 p).constants n a (constants-said s p fine) h))
      (λ n l h. (each_at (Spelled 1 s) (tables_of 1 p).eres n l (eres-spelled s p fine) h).1 bytes)

  -- reading the bytes of the image gives the image
  pub compiled-reads : fits (image_of 1 p) ≡ true → read_image from_bytes (bytes_of (image_of 1 p)) ≡ some (image_of 1 p)
  compiled-reads small = read-written bytes-agree (compiled-formed small)
