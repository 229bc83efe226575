use Rattle.iso_posts.specs.Seats.{ArePosts}
use Rattle.iso_posts.proofs.posts.Posts.new.Given as goal

abbrev pub invariant-loop : goal.invariant-loop
invariant-loop l = ArePosts l.counter l.seats.items
