-- `reader::whole::guess` meets its contract: the registers that tell something tell all of the guess.
use Rattle.reader.proofs.whole.Each.{all_told}
use Rattle.reader.proofs.whole.guess.Goals as goal

pub returns : goal.returns
returns c =
    rw (c.learn.ensures, c.learn-guess-10.ensures, c.learn-guess-9.ensures, c.learn-guess-8.ensures, c.learn-guess-7.ensures, c.learn-guess-6.ensures, c.learn-guess-5.ensures, c.learn-guess-4.ensures, c.learn-guess-3.ensures, c.learn-guess-2.ensures, c.learn-guess.ensures, c.blank-guess.ensures)
    (all_told c.args.board c.args.image.now)
