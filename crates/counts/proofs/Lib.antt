-- What reads give one after the other, and the line of them.
mod Reading
