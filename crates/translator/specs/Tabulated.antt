-- Internal: cited by private contracts only. A program's words, numbered in three passes: constants, EREs, variables;
-- and the tables that the passes leave.
use Rattle.std.specs.Prelude.{◌≡◌, false, List, [], ℕ, length}
use Rattle.program_entries.specs.Variables.{Held, variables_of}
use Rattle.program_numberer.specs.Numbered.{ProgramNumbered, ProgramNumbers}

-- the words of the tables: two for each variable, constant and ERE
abbrev pub variable_words : ℕ
variable_words = 64

abbrev pub constant_words : ℕ
constant_words = 128

abbrev pub ere_words : ℕ
ere_words = 32

-- words of the sections before and after, the tables of constants and EREs, and how many there are of each
pub record Tabulated (edition : ℕ) (s begin main end begin' main' end' constants eres : List ℕ) (v c e : ℕ) : Type 0
  where
    pub begin1 : List ℕ
    pub main1 : List ℕ
    pub end1 : List ℕ
    pub constants0 : List ℕ
    pub first : ProgramNumbered edition s 0 [] begin main end begin1 main1 end1 constants0 constants c
    pub constants0_room : length constants0 ≡ constant_words
    pub constants_room : length constants ≡ constant_words
    pub begin2 : List ℕ
    pub main2 : List ℕ
    pub end2 : List ℕ
    pub eres0 : List ℕ
    pub second : ProgramNumbered edition s 2 [] begin1 main1 end1 begin2 main2 end2 eres0 eres e
    pub eres0_room : length eres0 ≡ ere_words
    pub eres_room : length eres ≡ ere_words
    pub variables : List ℕ
    pub held : Held s false variables v (variables_of edition s)
    pub variables_room : length variables ≡ variable_words
    pub variables' : List ℕ
    pub after : ℕ
    pub third : ProgramNumbers edition s 1 begin2 main2 end2 begin' main' end' variables v variables' after
    pub variables'_room : length variables' ≡ variable_words
