-- What is planned of a deck: the program of each edition, and when it is in force.
use Rattle.std.specs.Prelude.{◌≡◌, ℕ, nat_le, List, [], Option, All, count_by, get_or, length, map}
use Rattle.std.specs.List.{enumerate_from, range_with_len}
use Rattle.air_model.specs.Disks.{Disk, all_items}
use Rattle.air_model.specs.Decks.{Deck, count_editions, disks_in, rates_in}
use Rattle.air_model.specs.Programs.{program}
use Rattle.air_model.specs.Airings.{pix_number}

-- A program is seen as its edition, and its disks.
pub record EditionDisks : Type 0 where
  pub edition : ℕ
  pub disks : List Disk

-- The disks of an edition of a deck.
abbrev pub edition_disks : Deck → ℕ → EditionDisks
edition_disks deck e = record { edition = e; disks = disks_in deck e }

-- The PIX number of each item of a deck in a program.
abbrev pub program_pix : Deck → EditionDisks → List ℕ
program_pix deck p = map (λ q. pix_number p.disks q.0 q.1) (enumerate_from 0 (rates_in deck))

-- Plans have the cycles of the replans, and of each edition the program, and the PIX number of each item.
pub record Plans : Type 0 where
  pub replans : List ℕ
  pub programs : List EditionDisks
  pub pix : List (List ℕ)

-- The program of each edition of a deck.
abbrev pub programs_in : Deck → List EditionDisks
programs_in deck = map (edition_disks deck) (range_with_len 0 (count_editions deck))

-- The plans of a deck.
abbrev pub plans_in : Deck → Plans
plans_in deck = record {
  replans = map (λ r. r.cycle) deck.replans;
  programs = programs_in deck;
  pix = map (program_pix deck) (programs_in deck);
}

-- The edition of a cycle is the number of replans that are in force by then.
abbrev pub planned_edition : Plans → ℕ → ℕ
planned_edition plans c = count_by (λ at. nat_le at c) plans.replans

-- The program that stands for that of an edition which plans don't have: without a disk.
abbrev pub no_disks : EditionDisks
no_disks = record { edition = 0; disks = [] }

-- The item of each slot of the program in force in a cycle.
abbrev pub planned_slots : Plans → ℕ → List (Option ℕ)
planned_slots plans c = program (get_or plans.programs (planned_edition plans c) no_disks).disks

-- Each of the programs has this number of items.
abbrev pub HaveItems : ℕ → List EditionDisks → Type 0
HaveItems n programs = All (λ p. length (all_items p.disks) ≡ n) programs
