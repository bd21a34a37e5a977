-- The book of what an accepted file says.
use Rattle.std.proofs.Common.{◌≡◌, ℕ, ◌<◌, ◌≤◌, ◌⊎◌, List, ◌∷◌, ◌++◌, map, length, get_or, take, None, sym, refl, ap, ◌∙◌, subst, ap₂, arith}
use Rattle.std.proofs.lemmas.List.{length-map, length-take-le, get_or-map, take-map, get_or-take}
use Rattle.packages.specs.declared.run.Run.{Run}
use Rattle.packages.specs.declared.relation.Relation.TheVariants.{Inside, Apart}
use Rattle.packages.specs.Lots.{Lots, fits_in}
use Rattle.packages.specs.Nest.{conflict_from, relation_of}
use Rattle.packages.specs.Places.{no_lots}
use Rattle.packages.proofs.Nests.{conflict_free}
use Rattle.salefile.specs.FileContents.{FileContents, run_set}
use Rattle.lines.specs.Kinds.{Kind, bid}
use Rattle.salefile.specs.Files.{Accepted, Sound}
use Rattle.salefile.specs.Orderly.{Orderly}
use Rattle.salefile.specs.Reading.{says, reading, Reads}
use Rattle.salefile.proofs.Computing.{reads_right}
use Rattle.salefile.proofs.Nested.{no_run, fits_at, stands_at}
use Rattle.salefile.proofs.Uniqueness.{chained, nth_bid, open_at, sound_front}
use Rattle.bids.specs.Bids.{no_bid}
use Rattle.bids.specs.Limits.{max_packages}
use Rattle.books.specs.Book.{file_book}
use Rattle.books.specs.Loading.{Standing}
use Rattle.books.proofs.Kept.{Placed, Bids, Kept}

pub accepted_reading : (file : List ℕ) (space : ℕ) (c : FileContents) → reading space file ≡ says c → Accepted file space c
accepted_reading file space c is = subst (Reads file space) is (reads_right file space)

-- the bids of an accepted file stand
pub all_standing : (file : List ℕ) (space : ℕ) (c : FileContents) → Accepted file space c → Standing c.bids
all_standing file space c a k d lt =
    let says = a.1.4 in
    let t = nth_bid a.1.0 k (omega (arith, says.lodged.many)) in
    let s : List Kind = t.0 in
    let all : Sound space (s ++ (bid t.1 t.2 ∷ t.3)) = subst (Sound space) t.4 a.1.2 in
    let o = open_at space s t.1 t.2 (chained space s (sound_front space s _ all)) (all s (bid t.1 t.2) t.3 refl) in
    ap (λ j. (get_or c.bids j d).withdrawn) (sym t.5) ∙ ap (λ b. b.withdrawn) (says.lodged.each s t.1 t.2 t.3 t.4 o.0 o.1 o.2 d)

module _ (space : ℕ) (c : FileContents) (ord : Orderly space c) where
  pub free_at : (i : ℕ) → i < length c.packages → conflict_from 1 (run_set (get_or c.packages i no_run)) (map run_set (take i c.packages)) ≡ None
  free_at i lt =
      let runs : List Run = c.packages in
      let s : Lots = run_set (get_or runs i no_run) in
      conflict_free 1 s (map run_set (take i runs)) no_lots
      (λ j l.
      let long : j < length (take i runs) = omega (arith, length-map (take i runs) run_set) in
      let before : j < i = omega (arith, length-take-le i runs (omega arith)) in
      let is : get_or (map run_set (take i runs)) j no_lots ≡ run_set (get_or runs j no_run) = get_or-map run_set (take i runs) j no_run no_lots long ∙ ap run_set (get_or-take i runs j no_run before) in
      subst (λ t. (relation_of s t ≡ Inside) ⊎ (relation_of s t ≡ Apart)) (sym is) (stands_at space c ord i j before lt))

  pub packages_count : length (map run_set c.packages) ≡ length c.packages
  packages_count = length-map c.packages run_set

  placed_taken : Placed c.lots (map run_set c.packages)
  placed_taken i h =
      let lt : i < length c.packages = omega (arith, packages_count) in
      let is = get_or-map run_set c.packages i no_run no_lots lt in
      (ap (fits_in c.lots) is ∙ fits_at space c ord i lt, ap₂ (conflict_from 1) is (take-map run_set i c.packages) ∙ free_at i lt)

  bids_taken : Bids (map run_set c.packages) c.bids
  bids_taken i h =
      let r = ord.in_range i no_bid h in
      let p = ord.on_package i no_bid h in
      record { buyer = (r.0, r.1); price = (r.2, r.3); on_package = (p.0, omega (arith, p.1, packages_count)) }

  pub kept_taken : space ≤ max_packages → Kept (file_book c space)
  kept_taken few = record {
    placed = placed_taken;
    few = omega (arith, ord.few_packages, packages_count);
    space = few;
    bids_few = ord.few_bids;
    bids = bids_taken;
  }
