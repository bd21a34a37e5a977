use Rattle.books.proofs.Reached.{always_sound}
use Rattle.books.proofs.laws.books_are_sound.Goals as goal

pub returns : goal.returns
returns c = always_sound
